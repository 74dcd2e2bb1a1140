-- States that an informed request (it knows its point's facts) knows those of its next point after a step that changes no
-- shared word.
-- Used by: src/knowledge_laws.rt.
use Rattle.mw_look.specs.declared.observations.Observation.{Observation}
use Rattle.mw_actor.specs.ActorState.{ActorState}
use Rattle.mw_actor.specs.Asks.{asks}
use Rattle.mw_world.specs.declared.config.Config.{Config}
use Rattle.mw_world.specs.Definition.State.{State}
use Rattle.mw_law_runs.specs.Knowledge.Informed.{IsInformed, ChangesNoWord}
use Rattle.mw_law_runs.specs.Knowledge.NextState.{KnowsItsPoint, told}

-- After such a step an informed request knows the facts of its next point, in the world before the step. What the step does to the history
-- and to the numbers of attempts isn't looked at here.
abbrev pub ReadsInform : Type 0
ReadsInform = (config : Config) (state : State) (actor : ActorState) (observation : Observation) → IsInformed config state actor → ChangesNoWord state.cells (asks actor) observation
    → KnowsItsPoint state (told state actor observation)
