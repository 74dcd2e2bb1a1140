-- Defines the parts of a worker's step: what it does to the shared words, to a tenant's file, and to the history.
-- Used by: src/world/calls.rt, src/world/turns.rt.
use Rattle.std.specs.Prelude.{ℕ, ◌≡◌, ◌&&◌, Bool, if◌then◌else◌, is_none, nat_lt, List, Option, Some, None, slice_get}
use Rattle.mw_words.specs.Change.{is_well_formed}
use Rattle.mw_words.specs.declared.jobs.Job.{Job}
use Rattle.mw_look.specs.declared.observations.Observation.{Observation}
use Rattle.mw_actor.specs.ActorState.{ActorState}
use Rattle.mw_actor.specs.Program.{tells}
use Rattle.mw_world.specs.Files.State.{File}
use Rattle.mw_world.specs.Maps.{upd}
use Rattle.mw_world.specs.declared.config.Config.{Config}
use Rattle.mw_world.specs.declared.step_labels.StepLabel.{StepLabel}
use Rattle.mw_world.specs.Definition.Cells.{Cells}
use Rattle.mw_world.specs.Definition.StepLabels.{label_of}
use Rattle.mw_world.specs.Definition.LabelEffects.{with_label, marked, with_labels, with_intent}
use Rattle.mw_world.specs.Definition.State.{State, tenant_at, tenants_of}
use Rattle.mw_world.specs.Definition.Turns.{goes_on, next_attempt}
use Rattle.mw_world_memory.specs.declared.tenants.TenantState.{TenantState as TenantStateInMemory}
use Rattle.mw_world_memory.specs.declared.claims.ClaimLog.{ClaimLog}
use Rattle.mw_world_memory.specs.Claims.{HasRoomForLabel}
use Rattle.mw_world_memory.specs.Lines.{HasRoomForLine}

-- There is room in memory for the label of one step of a tenant's request: for a claim, and for a mark of the tenant.
pub record HasRoom (claims : ClaimLog) (tenant_states : List TenantStateInMemory) (tenant : ℕ) : Type 0 where
  pub label : HasRoomForLabel claims
  pub line : (tenant_state : TenantStateInMemory) → slice_get tenant_states tenant ≡ Some tenant_state → HasRoomForLine tenant_state.lines

-- the world with these shared words
abbrev pub with_cells : State → Cells → State
with_cells state cells = record state { cells = cells }

-- the world with this file of a tenant
abbrev pub with_file : State → ℕ → File → State
with_file state tenant file = record state { tenant_states = upd state.tenant_states tenant (record (state.tenant_states tenant) { file = file }) }

-- The world after a worker's step with this label. The request goes on as `next`, and the worker's next attempt has
-- this number.
abbrev pub entered : State → ℕ → ActorState → ActorState → StepLabel → ℕ → State
entered state worker actor next label attempt =
    let worker_state = state.worker_states worker in
    let tenant_state = state.tenant_states next.tenant in
    record state {
      worker_states = upd state.worker_states worker (goes_on (with_labels label state.history tenant_state.lines worker_state) next attempt);
      tenant_states = upd state.tenant_states next.tenant (record tenant_state { lines = marked label worker_state state.history tenant_state.lines });
      history = with_intent (with_label label worker actor worker_state.request state.history) worker next;
    }

-- the number of a worker's next attempt after its request made its next step
abbrev pub attempt_after : State → ℕ → ActorState → ℕ
attempt_after state worker actor = next_attempt actor.point (state.worker_states worker).attempt

-- the world after a worker's request was told what its step found, with that label
abbrev pub told : State → ℕ → ActorState → Observation → StepLabel → State
told state worker actor observation label = entered state worker actor (tells actor observation (attempt_after state worker actor)) label (attempt_after state worker actor)

-- the label of the step at which a worker's request is told this
abbrev pub meaning : State → ℕ → ActorState → Observation → StepLabel
meaning state worker actor observation = label_of actor actor.point observation (tells actor observation (attempt_after state worker actor)).point

-- the worker exists and has no request
abbrev pub is_free : Config → State → ℕ → Bool
is_free config state worker = nat_lt worker config.workers && is_none (state.worker_states worker).actor

-- the tenant exists and may ask for this
abbrev pub may_ask : Config → ℕ → Job → Bool
may_ask config tenant job = nat_lt tenant (tenants_of config) && is_well_formed (tenant_at config tenant).words job

-- the number of a tenant's next request, if the tenant may ask for this
abbrev pub request_for : Config → State → ℕ → Job → Option ℕ
request_for config state tenant job = if may_ask config tenant job then Some (state.tenant_states tenant).asked else None
