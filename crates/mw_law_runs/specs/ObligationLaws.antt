-- The statements that this crate proves of releasers, the requests that will release a held word or clean a written one.
-- Used by: src/laws.rt.
use Rattle.std.specs.Prelude.{ℕ, ◌≡◌, ◌⊎◌, Some}
use Rattle.mw_look.specs.declared.observations.Observation.{Observation}
use Rattle.mw_actor.specs.ActorState.{ActorState}
use Rattle.mw_actor.specs.Asks.{asks}
use Rattle.mw_world.specs.declared.outcomes.Outcome.{Outcome}
use Rattle.mw_world.specs.declared.config.Config.{Config}
use Rattle.mw_world.specs.Definition.Calls.{Called, called_at}
use Rattle.mw_world.specs.Claim.Invariant.{HeldWordsHaveReleasers}
use Rattle.mw_world.specs.Definition.State.{State}
use Rattle.mw_law_runs.specs.Moves.Guards.{Guards}
use Rattle.mw_law_runs.specs.Moves.Moves.{made_all}
use Rattle.mw_law_runs.specs.Moves.StepMoves.{SameMemory, moves_of_call, moves_told, next_of}
use Rattle.mw_law_runs.specs.Moves.Steps.{PointsAreTold}
use Rattle.mw_law_runs.specs.Counts.CountInvariant.{CountsStand}
use Rattle.mw_law_runs.specs.Knowledge.Informed.{ChangesNoWord, ChangesAWord}
use Rattle.mw_law_runs.specs.Knowledge.LastPins.{MayLeave}
use Rattle.mw_law_runs.specs.Knowledge.NextState.{told, world_told}
use Rattle.mw_law_runs.specs.Knowledge.Calls.{told_of_call}
use Rattle.mw_law_runs.specs.Obligations.{WordsHaveReleasers, HaveTheirRequests, OneStepped}

-- If words have releasers as this crate says (`WordsHaveReleasers`), they have them as the world's invariant requires (`HeldWordsHaveReleasers`).
abbrev pub RequestsReleaseTheirWords : Type 0
RequestsReleaseTheirWords = (state : State) → WordsHaveReleasers state → HeldWordsHaveReleasers state

-- When a request takes back the last pin of a slot, no word refers to the slot. The premises: the invariant of counts holds, points tell what workers
-- may do, words have releasers, and each request belongs to its worker and is informed.
abbrev pub LastPinsAreFree : Type 0
LastPinsAreFree = (config : Config) (state : State) (worker : ℕ) (actor : ActorState) → CountsStand config state → PointsAreTold state → HaveTheirRequests config state → WordsHaveReleasers state
    → (state.worker_states worker).actor ≡ Some actor → MayLeave state actor.point

-- Under the same premises words keep their releasers over a step of a request, if the precondition of each of its moves holds. The step may change a
-- shared word or not.
abbrev pub StepsKeepReleasers : Type 0
StepsKeepReleasers = (config : Config) (old new : State) (worker : ℕ) (actor : ActorState) (observation : Observation) → CountsStand config old → PointsAreTold old → HaveTheirRequests config old → WordsHaveReleasers old
    → (old.worker_states worker).actor ≡ Some actor → ChangesNoWord old.cells (asks actor) observation ⊎ ChangesAWord old.cells (asks actor) observation
    → Guards config old worker (moves_told old worker actor observation)
    → SameMemory new (world_told old actor observation) → OneStepped old new worker (told old actor observation) → WordsHaveReleasers new

-- Words keep their releasers over a call on a file, however it ends, if each request belongs to its worker and is informed.
abbrev pub CallsKeepReleasers : Type 0
CallsKeepReleasers = (config : Config) (old new : State) (worker : ℕ) (actor : ActorState) (called : Called) (outcome : Outcome) → HaveTheirRequests config old → WordsHaveReleasers old
    → (old.worker_states worker).actor ≡ Some actor → called_at actor.point ≡ Some called → SameMemory new (made_all old worker (moves_of_call old worker actor called outcome))
    → OneStepped old new worker (next_of old worker actor (told_of_call old actor called outcome)) → WordsHaveReleasers new
