-- Goals of `World::all_reopened` (src/world/restarts.rt).
use Rattle.std.proofs.Common.{◌≡◌, ℕ, ap, length, get_or, subst, sym, ◌∙◌, ◌+◌, arith}
use Rattle.std.proofs.lemmas.List.{length_push}
use Rattle.mw_world_file.specs.SoundBooks.{HasSound}
use Rattle.mw_world.specs.Definition.State.{State, tenant_at}
use Rattle.mw_world_memory.specs.declared.tenants.TenantState.{TenantState}
use Rattle.mw_simulator.specs.Events.{outage_of}
use Rattle.mw_simulator.specs.Representation.{Represents}
use Rattle.mw_simulator.specs.Stops.{AreReopening, EachHasRoom, IsReopening}
use Rattle.mw_world_memory.specs.Lines.{OneHasRoom}
use Rattle.mw_world_memory.specs.TenantBooks.{AreSound}
use Rattle.mw_simulator.proofs.Reopened.{one_refused}
use Rattle.mw_simulator.proofs.FirstWorlds.{each_more, each_none, each_of_more}
use Rattle.mw_simulator.proofs.world.World.all_reopened.Goals as goal

pub loop-tenant-init : goal.loop-tenant-init
loop-tenant-init c = record {
  count = ap length c.in-Ok.ensures.items;
  each = subst (AreReopening c.args.self.now c.args.stops.now) (sym c.in-Ok.ensures.items) (each_none _);
  lines = subst (EachHasRoom c.args.self.now.tenant_states.items) (sym c.in-Ok.ensures.items) (each_none _);
  sound = subst (AreSound c.args.self.now.config) (sym c.in-Ok.ensures.items) (each_none _);
}

pub loop-tenant-preserved : goal.loop-tenant-preserved
loop-tenant-preserved c =
    let world = c.args.self.now in
    let stops = c.args.stops.now in
    let before = c.loop-tenant.tenant_states.items in
    let tenant = c.loop-tenant.tenant in
    let new = c.in-Ok-stopped.reopened in
    let old = c.tenant_state-item.result in
    let R : ℕ → TenantState → TenantState → Type 0 = λ k a b. (state : State) → Represents world state
    → IsReopening world.config state k (outage_of stops k) a b in
    let read = subst (λ all. old ≡ get_or all tenant old) c.deref-tenant_state-items.ensures.value c.tenant_state-item.is in
    record {
      count = ap length c.in-Ok-push.ensures.items ∙ length_push before new ∙ ap (λ n. n + 1) c.loop-tenant.invariant.count;
      each = subst (AreReopening world stops) (sym c.in-Ok-push.ensures.items)
          (each_of_more R world.tenant_states.items before tenant old new c.loop-tenant.invariant.count read c.in-Ok-stopped.ensures.reopens c.loop-tenant.invariant.each);
      lines = subst (EachHasRoom world.tenant_states.items) (sym c.in-Ok-push.ensures.items)
          (each_of_more (λ k (a b : TenantState). OneHasRoom a.lines b.lines) world.tenant_states.items before tenant old new c.loop-tenant.invariant.count read c.in-Ok-stopped.ensures.lines c.loop-tenant.invariant.lines);
      sound = subst (AreSound world.config) (sym c.in-Ok-push.ensures.items)
          (each_more (λ k (one : TenantState). HasSound (tenant_at world.config k).words one.book) before new c.loop-tenant.invariant.sound
          (subst (λ k. HasSound (tenant_at world.config k).words new.book) (sym c.loop-tenant.invariant.count) c.in-Ok-stopped.ensures.sound));
    }

pub returns-in-Err-clause-reopen : goal.returns-in-Err-clause-reopen
returns-in-Err-clause-reopen c = one_refused c.args.self.now c.args.stops.now c.loop-tenant.tenant c.tenant_state-item.result c.in-Err.fault c.in-Err.ensures.reopens

pub returns-clause-reopen : goal.returns-clause-reopen
returns-clause-reopen c =
    let done : c.loop-tenant.tenant ≡ length c.args.self.now.tenant_states.items = omega (arith, ap length c.deref-tenant_state-items.ensures.value, c.loop-tenant-test.false) in
    (c.loop-tenant.invariant.count ∙ done, c.loop-tenant.invariant.each)
