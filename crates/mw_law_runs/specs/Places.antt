-- Defines which slots, entries and workers a request may name at its point (program counter), so that its next step is at a
-- shared word that exists.
-- Used by: places_are_there (src/laws.rt).
use Rattle.std.specs.Prelude.{ℕ, ◌≡◌, ◌≤◌, ◌<◌, true, List, Some, None}
use Rattle.mw_words.specs.declared.limits.TheConstants.{MAX_ENTRIES}
use Rattle.mw_look.specs.declared.points.Point.{Point as ReadPoint}
use Rattle.mw_look.specs.declared.points.Point.TheVariants.{FindEntry, ReadExpected, ReadNew}
use Rattle.mw_actor.specs.declared.points.Point.{Point}
use Rattle.mw_actor.specs.declared.points.Point.TheVariants.{Read, ScanGate, Claim, ConfirmAttempt, ReadDirtyGate, ConfirmDirty, ReadOtherGate, PinOther}
use Rattle.mw_actor.specs.ActorState.{ActorState}
use Rattle.mw_actor.specs.Asks.{asks}
use Rattle.mw_actor.specs.Program.{replied}
use Rattle.mw_world.specs.declared.config.Config.{Config}
use Rattle.mw_world.specs.Claim.Headline.{IsExecution}
use Rattle.mw_world.specs.Definition.Calls.{called_at}
use Rattle.mw_world.specs.Definition.Events.{WorldEvent}
use Rattle.mw_world.specs.Definition.State.{State, TenantStart}
use Rattle.mw_world.specs.Definition.Turns.{may_make}

-- a read looks at entries that a change may have
abbrev pub ReadIsWithin : ReadPoint → Type 0
ReadIsWithin (FindEntry trail status entry) = entry < MAX_ENTRIES
ReadIsWithin (ReadExpected trail status entry) = entry < MAX_ENTRIES
ReadIsWithin (ReadNew trail status entry expected) = entry < MAX_ENTRIES
ReadIsWithin point = Unit {0}

-- a read names only entries that a change may have; a change names only slots of a pool of this size, also those that words and rows named
abbrev pub IsWithin : ℕ → Point → Type 0
IsWithin pool (Read look) = ReadIsWithin look.point
IsWithin pool (ScanGate slot saw_worn) = slot < pool
IsWithin pool (Claim slot saw_worn from to) = slot < pool
IsWithin pool (ConfirmAttempt task entry attempt other) = other.slot < pool
IsWithin pool (ReadDirtyGate task entry slot value) = slot < pool
IsWithin pool (ConfirmDirty task entry other value) = other.slot < pool
IsWithin pool (ReadOtherGate task other) = other.slot < pool
IsWithin pool (PinOther task other from to) = other.slot < pool
IsWithin pool point = Unit {0}

-- The point of each request is within these bounds, and no worker past the last one has made an attempt.
pub record AreWithin (config : Config) (state : State) : Type 0 where
  pub points : (worker : ℕ) (actor : ActorState) → (state.worker_states worker).actor ≡ Some actor → IsWithin config.pool actor.point
  pub attempts : (worker : ℕ) → config.workers ≤ worker → (state.worker_states worker).attempt ≡ 0

-- After every run, if a request has no reply and is at no call on its file, its next step is at a place that exists.
abbrev pub PlacesAreThere : Type 0
PlacesAreThere = (config : Config) (openings : ℕ → TenantStart) (events : List WorldEvent) (state : State) (worker : ℕ) (actor : ActorState) → IsExecution config openings events state
    → (state.worker_states worker).actor ≡ Some actor → replied actor ≡ None → called_at actor.point ≡ None → may_make config (asks actor) ≡ true
