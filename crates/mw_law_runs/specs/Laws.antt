-- The statements that this crate proves of runs: every event keeps a world sound (`IsSound`), so every run leads to one.
-- Used by: src/laws.rt.
use Rattle.std.specs.Prelude.{ℕ, ◌≡◌, ◌≤◌, ◌⊎◌, true, List, Some}
use Rattle.mw_actor.specs.ActorState.{ActorState}
use Rattle.mw_words.specs.declared.jobs.Job.{Job}
use Rattle.mw_words.specs.declared.limits.TheConstants.{MAX_VALUE}
use Rattle.mw_words.specs.Change.{word_at}
use Rattle.mw_world.specs.declared.outcomes.Outcome.{Outcome}
use Rattle.mw_world.specs.declared.config.Config.{Config}
use Rattle.mw_world.specs.Definition.Calls.{call}
use Rattle.mw_world.specs.Definition.Counts.{pins_held}
use Rattle.mw_world.specs.Definition.Events.{Found, WorldEvent, Restart}
use Rattle.mw_world.specs.Definition.Restarts.{restart, found_of}
use Rattle.mw_world.specs.Definition.State.{State, IsConfig, IsStart, TenantStart, world_at}
use Rattle.mw_world.specs.Definition.Turns.{turn}
use Rattle.mw_world.specs.Definition.World.{come, hand, step}
use Rattle.mw_world.specs.Claim.Headline.{IsExecution}
use Rattle.mw_law_runs.specs.Counts.Laws.{HasRoom}
use Rattle.mw_law_runs.specs.Counts.CountInvariant.{CountsRestOn}
use Rattle.mw_law_runs.specs.Files.{FilesFit}
use Rattle.mw_law_runs.specs.RunInvariant.{IsSound, IsRightButForFiles}

-- In a sound world the counts have what they rest on.
abbrev pub CountsHaveRest : Type 0
CountsHaveRest = (config : Config) (state : State) → IsSound config state → CountsRestOn state

-- A step of a request that is no call on a file leaves a sound world sound.
abbrev pub TurnsKeepSound : Type 0
TurnsKeepSound = (config : Config) (state next : State) (worker : ℕ) → IsSound config state → turn config state worker (state.worker_states worker).actor ≡ Some next → IsSound config next

-- A call on a file leaves a sound world sound, however it ends.
abbrev pub CallsKeepSound : Type 0
CallsKeepSound = (config : Config) (state next : State) (worker : ℕ) (outcome : Outcome) → IsSound config state → call config state worker (state.worker_states worker).actor outcome ≡ Some next
    → IsSound config next

-- A request that arrives leaves a sound world sound, if a world can be made of the configuration.
abbrev pub ComesKeepSound : Type 0
ComesKeepSound = (config : Config) (state next : State) (worker tenant : ℕ) (job : Job) → IsConfig config → IsSound config state → come config state worker tenant job ≡ Some next → IsSound config next

-- A reply that is handed out leaves a sound world sound.
abbrev pub HandsKeepSound : Type 0
HandsKeepSound = (config : Config) (state next : State) (worker : ℕ) → IsSound config state → hand state worker (state.worker_states worker).actor ≡ Some next → IsSound config next

-- A world is sound at every start with which a run may begin.
abbrev pub StartsAreSound : Type 0
StartsAreSound = (config : Config) (openings : ℕ → TenantStart) → IsConfig config → IsStart config openings → IsSound config (world_at config openings)

-- A start leaves a sound world sound, if it finds no word above the greatest value and a world can be made of the configuration.
abbrev pub RestartsKeepSound : Type 0
RestartsKeepSound = (config : Config) (state next : State) (founds : List Found) → IsConfig config → ((tenant address : ℕ) → word_at (found_of founds tenant).words address ≤ MAX_VALUE)
    → IsSound config state → restart config state founds ≡ Some next → IsSound config next

-- Every event leaves a sound world sound and keeps words that fit in its files. The premises: the files had such words before, and a world can be
-- made of the configuration.
abbrev pub EventsKeepSound : Type 0
EventsKeepSound = (config : Config) (state next : State) (event : WorldEvent) → IsConfig config → IsSound config state → FilesFit state → step config state event ≡ Some next
    → IsSound config next × FilesFit next

-- A sound world has all parts of the world's invariant except those about files and their places.
abbrev pub SoundWorldsAreRight : Type 0
SoundWorldsAreRight = (config : Config) (state : State) → IsSound config state → IsRightButForFiles config state

-- Every run leads to a sound world, whose files have words that fit.
abbrev pub RunsAreSound : Type 0
RunsAreSound = (config : Config) (openings : ℕ → TenantStart) (events : List WorldEvent) (state : State) → IsExecution config openings events state
    → IsSound config state × FilesFit state

-- There is room in the pool after every run. No more slots are taken than the doors count. While a door counts a slot that a request hasn't taken
-- yet, or has already freed, some slot isn't taken.
abbrev pub RoomIsLeft : Type 0
RoomIsLeft = (config : Config) (openings : ℕ → TenantStart) (events : List WorldEvent) (state : State) → IsExecution config openings events state → HasRoom config state

-- This worker's request holds a pin of the slot.
pub record IsPinHolder (state : State) (slot worker : ℕ) : Type 0 where
  pub actor : ActorState
  pub is : (state.worker_states worker).actor ≡ Some actor
  pub pin : 1 ≤ pins_held slot actor.point

-- The gate of the slot keeps its number, and is taken before and after.
pub record KeepsItsNumber (state next : State) (slot : ℕ) : Type 0 where
  pub number : (next.cells.gates slot).seq ≡ (state.cells.gates slot).seq
  pub was_taken : (state.cells.gates slot).taken ≡ true
  pub is_taken : (next.cells.gates slot).taken ≡ true

-- The event is not a start.
abbrev pub IsNoStart : WorldEvent → Type 0
IsNoStart (Restart founds) = ⊥
IsNoStart event = Unit {0}

-- After every run no event but a start changes the number of a slot's gate while somebody holds a pin of the slot: a worker's request, or a change
-- that was given up and left its pin behind.
abbrev pub PinnedGatesKeepTheirNumbers : Type 0
PinnedGatesKeepTheirNumbers = (config : Config) (openings : ℕ → TenantStart) (events : List WorldEvent) (state next : State) (event : WorldEvent) (slot worker : ℕ)
    → IsExecution config openings events state → IsPinHolder state slot worker ⊎ (state.history.stays slot (state.cells.gates slot).seq ≡ true) → IsNoStart event
    → step config state event ≡ Some next → KeepsItsNumber state next slot
