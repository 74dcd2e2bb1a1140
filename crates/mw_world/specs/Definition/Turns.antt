-- Defines one step of a worker's request that is no call on a file. Used by: many crates from mw_law_runs on.
use Rattle.std.specs.Prelude.{ℕ, ◌+◌, ◌&&◌, Bool, false, not, Option, Some, None, is_some, if◌then◌else◌}
use Rattle.mw_look.specs.declared.observations.Observation.{Observation}
use Rattle.mw_look.specs.Steps.{Step, Load, Change, File as FileStep}
use Rattle.mw_actor.specs.declared.points.Point.{Point}
use Rattle.mw_actor.specs.declared.points.Point.TheVariants.{Plant}
use Rattle.mw_actor.specs.ActorState.{ActorState}
use Rattle.mw_actor.specs.Asks.{asks}
use Rattle.mw_actor.specs.Program.{tells, replied}
use Rattle.mw_world.specs.Maps.{upd}
use Rattle.mw_world.specs.Files.State.{File}
use Rattle.mw_world.specs.declared.config.Config.{Config}
use Rattle.mw_world.specs.Definition.Cells.{Cells}
use Rattle.mw_world.specs.Definition.Changes.{done}
use Rattle.mw_world.specs.Definition.Extent.{has_place}
use Rattle.mw_world.specs.declared.step_labels.StepLabel.{StepLabel}
use Rattle.mw_world.specs.Definition.StepLabels.{label_of}
use Rattle.mw_world.specs.Definition.LabelEffects.{with_label, marked, with_labels, with_intent}
use Rattle.mw_world.specs.Definition.State.{State, WorkerState, TenantState}

-- the number of the worker's next attempt: an exchange that plants an attempt uses up a number, also if it loses
abbrev pub next_attempt : Point → ℕ → ℕ
next_attempt (Plant task entry number) attempt = number + 1
next_attempt point attempt = attempt

-- the worker's state when it goes on with this request, and with this number for its next attempt
abbrev pub goes_on : WorkerState → ActorState → ℕ → WorkerState
goes_on worker_state actor attempt = record worker_state { actor = Some actor; attempt = attempt }

-- What a step left and found: the shared words and the tenant's file after it, what the request observes, and the
-- label.
pub record Made : Type 0 where
  pub cells : Cells
  pub file : File
  pub observation : Observation
  pub label : StepLabel

-- the tenant state after a step
abbrev pub tenant_state_after : TenantState → WorkerState → Made → State → TenantState
tenant_state_after tenant_state worker_state made state = record tenant_state { file = made.file; lines = marked made.label worker_state state.history tenant_state.lines }

-- the world after a step of a worker's request, which goes on in this state
abbrev pub moved_to : State → ℕ → ActorState → ActorState → Made → State
moved_to state worker actor next made =
    let worker_state = state.worker_states worker in
    let tenant_state = state.tenant_states actor.tenant in
    record {
      cells = made.cells;
      worker_states = upd state.worker_states worker (goes_on (with_labels made.label state.history tenant_state.lines worker_state) next (next_attempt actor.point worker_state.attempt));
      tenant_states = upd state.tenant_states actor.tenant (tenant_state_after tenant_state worker_state made state);
      history = with_intent (with_label made.label worker actor worker_state.request state.history) worker next;
    }

-- the world after a step of a worker's request
abbrev pub moved : State → ℕ → ActorState → Made → State
moved state worker actor made = moved_to state worker actor (tells actor made.observation (next_attempt actor.point (state.worker_states worker).attempt)) made

-- the result of a step that left these shared words and gave this observation
abbrev pub made_of : State → ℕ → ActorState → Cells → Observation → Made
made_of state worker actor cells observation = record {
  cells = cells;
  file = (state.tenant_states actor.tenant).file;
  observation = observation;
  label = label_of actor actor.point observation (tells actor observation (next_attempt actor.point (state.worker_states worker).attempt)).point;
}

-- the world after the step that a worker's request asks for
abbrev pub turned : State → ℕ → ActorState → State
turned state worker actor = done (asks actor) state.cells (λ cells observation. moved state worker actor (made_of state worker actor cells observation))

-- the step is no call on a file, and the world has its word
abbrev pub may_make : Config → Step → Bool
may_make config (Load at) = has_place config at
may_make config (Change kind at from to) = has_place config at
may_make config (FileStep call slot) = false

-- One step of a worker that has a request without a reply. The step is no call on a file.
abbrev pub turn : Config → State → ℕ → Option ActorState → Option State
turn config state worker None = None
turn config state worker (Some actor) = if not (is_some (replied actor)) && may_make config (asks actor) then Some (turned state worker actor) else None
