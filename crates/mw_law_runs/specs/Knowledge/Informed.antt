-- Defines an informed request: one that is as a worker may have it, and knows the facts of its point. Used by: mw_law_store.
use Rattle.std.specs.Prelude.{◌≡◌, ◌≢◌}
use Rattle.mw_words.specs.declared.jobs.Job.{Job}
use Rattle.mw_words.specs.declared.jobs.Job.TheVariants.{Get, Cas}
use Rattle.mw_words.specs.declared.places.At.{At}
use Rattle.mw_look.specs.declared.observations.Observation.{Observation}
use Rattle.mw_look.specs.declared.observations.Observation.TheVariants.{Won, Lost}
use Rattle.mw_look.specs.Observations.{seen}
use Rattle.mw_look.specs.Places.{Val}
use Rattle.mw_look.specs.Steps.{Step, Load, Change, File as FileStep}
use Rattle.mw_actor.specs.declared.points.Point.{Point}
use Rattle.mw_actor.specs.declared.points.Point.TheVariants.{Read}
use Rattle.mw_actor.specs.ActorState.{ActorState}
use Rattle.mw_actor.specs.Ranges.{IsInRange}
use Rattle.mw_world.specs.declared.config.Config.{Config}
use Rattle.mw_world.specs.Definition.Cells.{Cells, read}
use Rattle.mw_look.specs.declared.steps.Shape.{Shape}
use Rattle.mw_look.specs.declared.steps.Shape.TheVariants.{Exchange, Store, Fetch}
use Rattle.mw_look.specs.Shapes.{shape_of}
use Rattle.mw_world.specs.Definition.History.{standing_at, permission_at}
use Rattle.mw_world.specs.Claim.Invariant.{IsOfWorker}
use Rattle.mw_world.specs.Definition.State.{State}
use Rattle.mw_law_runs.specs.Moves.Memory.{Memory}
use Rattle.mw_law_runs.specs.Counts.Exact.{IsLookInRange}
use Rattle.mw_law_runs.specs.Counts.Ready.{IsReady}
use Rattle.mw_law_runs.specs.Knowledge.Live.{AreLive}
use Rattle.mw_law_runs.specs.Knowledge.Points.{Knows}

-- The point is one of a request for this job: a read is at a read's points, with its address, and a change at those of a change.
abbrev pub IsPointFor : Job → Point → Type 0
IsPointFor (Get address) (Read look) = look.address ≡ address
IsPointFor (Get address) point = ⊥
IsPointFor (Cas entries) (Read look) = ⊥
IsPointFor (Cas entries) point = Unit {0}

-- The request is informed. The invariant of the shared words holds (`Memory`). The request is one that a worker may have: its tenant is one of the
-- world's; it has that tenant's quota, the pool's size and a job that the tenant may ask for. It is in range, ready for its next step, and at a point
-- for its job. The history has for the worker exactly the standing attempt and the permission that the point says. Its slots are live: each is taken
-- under the number by which the request knows it. It knows the facts of that point.
pub record IsInformed (config : Config) (state : State) (actor : ActorState) : Type 0 where
  pub memory : Memory config state
  pub worker_state : IsOfWorker config actor.worker actor
  pub in_range : IsInRange actor
  pub look_in_range : IsLookInRange actor.point
  pub ready : IsReady actor actor.point
  pub for_job : IsPointFor actor.job actor.point
  pub standing : state.history.standing actor.worker ≡ standing_at actor actor.point
  pub permission : state.history.permission actor.worker ≡ permission_at actor actor.point
  pub live : AreLive state actor.point
  pub knows : Knows state actor actor.point

-- The step changes no shared word, and the request learns this of it: the value at the place that it loads, or that its exchange has lost, because
-- the place doesn't have the expected value. A call on a file is neither this nor `ChangesAWord`.
abbrev pub ChangesNoWord : Cells → Step → Observation → Type 0
ChangesNoWord cells (Load at) observation = observation ≡ seen at (read cells at)
ChangesNoWord cells (Change kind at from to) observation = (shape_of kind ≡ Exchange) × (observation ≡ Lost) × (read cells at ≢ from)
ChangesNoWord cells (FileStep call slot) observation = ⊥

-- A change of a place, and what the request learns of it. An exchange finds what it expects and wins. A store is made. A fetch tells what it found.
abbrev pub Changes : Shape → (at : At) → Val at → Cells → Observation → Type 0
Changes Exchange at from cells observation = (observation ≡ Won) × (read cells at ≡ from)
Changes Store at from cells observation = observation ≡ Won
Changes Fetch at from cells observation = observation ≡ seen at (read cells at)

-- The step changes a shared word, and the request learns this of it.
abbrev pub ChangesAWord : Cells → Step → Observation → Type 0
ChangesAWord cells (Change kind at from to) observation = Changes (shape_of kind) at from cells observation
ChangesAWord cells step observation = ⊥
