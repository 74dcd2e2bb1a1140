-- Defines the world after a request came, and after its reply was handed out. Used by: many crates from mw_law_runs on.
use Rattle.std.specs.Prelude.{ℕ, Some, None}
use Rattle.mw_words.specs.declared.jobs.Job.{Job}
use Rattle.mw_lone.specs.declared.marks.Mark.TheVariants.{Reply as HandOut}
use Rattle.mw_actor.specs.ActorState.{first}
use Rattle.mw_world.specs.Maps.{upd}
use Rattle.mw_world.specs.declared.config.Config.{Config}
use Rattle.mw_world.specs.Definition.LabelEffects.{more}
use Rattle.mw_world.specs.Definition.State.{State}
use Rattle.mw_world.specs.Definition.World.{asked, begun}

-- the world after a worker began a request of a tenant
abbrev pub came : Config → State → ℕ → ℕ → Job → State
came config state worker tenant job = record state {
  worker_states = upd state.worker_states worker (begun (state.worker_states worker) (first worker tenant (state.tenant_states tenant).quota config.pool job) (state.tenant_states tenant).asked);
  tenant_states = upd state.tenant_states tenant (asked (state.tenant_states tenant) job);
}

-- the world after a worker handed out the reply to its request of this tenant
abbrev pub gave : State → ℕ → ℕ → State
gave state worker tenant =
    let tenant_state = state.tenant_states tenant in
    record state {
      worker_states = upd state.worker_states worker (record (state.worker_states worker) { actor = None });
      tenant_states = upd state.tenant_states tenant (record tenant_state { lines = more tenant_state.lines (Some (HandOut (state.worker_states worker).request)) });
    }
