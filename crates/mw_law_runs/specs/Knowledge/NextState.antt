-- Defines a request after its step, and the world after that step. Used by: mw_law_store.
use Rattle.mw_look.specs.declared.observations.Observation.{Observation}
use Rattle.mw_actor.specs.ActorState.{ActorState}
use Rattle.mw_world.specs.Definition.State.{State}
use Rattle.mw_law_runs.specs.Moves.Moves.{made_all}
use Rattle.mw_law_runs.specs.Moves.StepMoves.{next_of, moves_told}
use Rattle.mw_law_runs.specs.Knowledge.Live.{AreLive}
use Rattle.mw_law_runs.specs.Knowledge.Points.{Knows}

-- the request after it learns this of its step
abbrev pub told : State → ActorState → Observation → ActorState
told state actor observation = next_of state actor.worker actor observation

-- the world after the step of which the request learns this: its shared words, its history and the numbers of attempts; requests and files are those
-- before the step
abbrev pub world_told : State → ActorState → Observation → State
world_told state actor observation = made_all state actor.worker (moves_told state actor.worker actor observation)

-- The request's slots are live: each is taken under the number by which the request knows it. The request knows the facts of its point.
pub record KnowsItsPoint (state : State) (actor : ActorState) : Type 0 where
  pub live : AreLive state actor.point
  pub knows : Knows state actor actor.point
