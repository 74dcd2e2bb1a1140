-- States that each move (elementary change) of an informed request's step has its precondition.
-- Used by: src/knowledge_laws.rt.
use Rattle.std.specs.Prelude.{◌≡◌, true, Some}
use Rattle.mw_look.specs.declared.observations.Observation.{Observation}
use Rattle.mw_actor.specs.ActorState.{ActorState}
use Rattle.mw_actor.specs.Asks.{asks}
use Rattle.mw_world.specs.declared.config.Config.{Config}
use Rattle.mw_world.specs.Definition.State.{State}
use Rattle.mw_world.specs.Definition.Turns.{may_make}
use Rattle.mw_law_runs.specs.Moves.Guards.{Guards}
use Rattle.mw_law_runs.specs.Moves.StepMoves.{moves_told}
use Rattle.mw_law_runs.specs.Counts.CountInvariant.{CountsStand}
use Rattle.mw_law_runs.specs.Knowledge.Informed.{IsInformed, ChangesNoWord, ChangesAWord}
use Rattle.mw_law_runs.specs.Knowledge.LastPins.{MayLeave}

-- If the request is informed, the precondition of each move of a step that changes no shared word holds.
abbrev pub ReadsHaveGuards : Type 0
ReadsHaveGuards = (config : Config) (state : State) (actor : ActorState) (observation : Observation) → IsInformed config state actor → ChangesNoWord state.cells (asks actor) observation
    → Guards config state actor.worker (moves_told state actor.worker actor observation)

-- If the request is informed, the precondition of each move of a step that changes a shared word holds too. This has four premises more. The
-- invariant of counts holds. The worker has the request. The step is at a place that the world has. If the step takes back the last pin of a slot, no
-- word refers to the slot.
abbrev pub UpdatesHaveGuards : Type 0
UpdatesHaveGuards = (config : Config) (state : State) (actor : ActorState) (observation : Observation) → CountsStand config state → (state.worker_states actor.worker).actor ≡ Some actor → IsInformed config state actor → MayLeave state actor.point
    → may_make config (asks actor) ≡ true → ChangesAWord state.cells (asks actor) observation → Guards config state actor.worker (moves_told state actor.worker actor observation)
