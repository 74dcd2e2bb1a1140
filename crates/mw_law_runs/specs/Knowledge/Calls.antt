-- States that an informed request (it knows its point's facts) meets the preconditions of its call on a file, and knows its
-- next point's facts.
-- Used by: src/knowledge_laws.rt, mw_law_store.
use Rattle.std.specs.Prelude.{◌≡◌, Some}
use Rattle.mw_look.specs.declared.observations.Observation.{Observation}
use Rattle.mw_actor.specs.ActorState.{ActorState}
use Rattle.mw_world.specs.declared.outcomes.Outcome.{Outcome}
use Rattle.mw_world.specs.declared.config.Config.{Config}
use Rattle.mw_world.specs.Definition.Calls.{Called, called_at, starts_from, fails_on}
use Rattle.mw_world.specs.Definition.State.{State}
use Rattle.mw_law_runs.specs.Moves.Guards.{Guards}
use Rattle.mw_law_runs.specs.Moves.Moves.{made_all}
use Rattle.mw_law_runs.specs.Moves.StepMoves.{moves_of_call, call_observation, next_of}
use Rattle.mw_law_runs.specs.Knowledge.Informed.{IsInformed}
use Rattle.mw_law_runs.specs.Knowledge.NextState.{KnowsItsPoint}

-- what a request learns of a call
abbrev pub told_of_call : State → ActorState → Called → Outcome → Observation
told_of_call state actor called outcome = call_observation (starts_from called.call (state.cells.statuses called.change.slot)) (fails_on called.call (state.tenant_states actor.tenant).file) outcome

-- If the request is informed, the precondition of each move of its call on a file holds.
abbrev pub CallsHaveGuards : Type 0
CallsHaveGuards = (config : Config) (state : State) (actor : ActorState) (called : Called) (outcome : Outcome) → IsInformed config state actor → called_at actor.point ≡ Some called
    → Guards config state actor.worker (moves_of_call state actor.worker actor called outcome)

-- After the call an informed request knows the facts of its next point.
abbrev pub CallsInform : Type 0
CallsInform = (config : Config) (state : State) (actor : ActorState) (called : Called) (outcome : Outcome) → IsInformed config state actor → called_at actor.point ≡ Some called
    → KnowsItsPoint (made_all state actor.worker (moves_of_call state actor.worker actor called outcome)) (next_of state actor.worker actor (told_of_call state actor called outcome))
