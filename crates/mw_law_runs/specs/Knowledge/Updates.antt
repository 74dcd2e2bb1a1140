-- States that an informed request (it knows its point's facts) knows those of its next point after a step that changes a
-- shared word.
-- Used by: src/knowledge_laws.rt.
use Rattle.std.specs.Prelude.{◌≡◌, Some}
use Rattle.mw_look.specs.declared.observations.Observation.{Observation}
use Rattle.mw_actor.specs.ActorState.{ActorState}
use Rattle.mw_actor.specs.Asks.{asks}
use Rattle.mw_world.specs.declared.config.Config.{Config}
use Rattle.mw_world.specs.Definition.State.{State}
use Rattle.mw_law_runs.specs.Moves.Guards.{Guards}
use Rattle.mw_law_runs.specs.Moves.StepMoves.{moves_told}
use Rattle.mw_law_runs.specs.Counts.CountInvariant.{CountsStand}
use Rattle.mw_law_runs.specs.Knowledge.Informed.{IsInformed, ChangesAWord}
use Rattle.mw_law_runs.specs.Knowledge.NextState.{KnowsItsPoint, told, world_told}

-- After such a step an informed request knows the facts of its next point. The premises: the invariant of counts holds, its worker has the
-- request, and the precondition of each move of the step holds.
abbrev pub UpdatesInform : Type 0
UpdatesInform = (config : Config) (state : State) (actor : ActorState) (observation : Observation) → CountsStand config state → (state.worker_states actor.worker).actor ≡ Some actor → IsInformed config state actor
    → ChangesAWord state.cells (asks actor) observation → Guards config state actor.worker (moves_told state actor.worker actor observation)
    → KnowsItsPoint (world_told state actor observation) (told state actor observation)
