-- Goals of `fresh_tenant_states` (src/world/new_worlds.rt).
use Rattle.std.proofs.Common.{subst, sym, ap, ◌∙◌, ◌+◌, length}
use Rattle.std.proofs.lemmas.List.{length_push}
use Rattle.mw_simulator.specs.Starts.{EachOf, IsFresh}
use Rattle.mw_simulator.proofs.FirstWorlds.{each_none, each_of_more}
use Rattle.mw_simulator.proofs.world.new_worlds.fresh_tenant_states.Goals as goal

pub loop-tenant-init : goal.loop-tenant-init
loop-tenant-init c = record {
  count = ap length c.in_ok-tenant_states.ensures.items;
  each = subst (EachOf (λ tenant of shown. IsFresh of shown) c.args.tenants.now) (sym c.in_ok-tenant_states.ensures.items) (each_none _);
}

pub loop-tenant-preserved : goal.loop-tenant-preserved
loop-tenant-preserved c =
    let before = c.loop-tenant.tenant_states.items in
    let index = c.loop-tenant.tenant-index in
    let shown = c.in_ok-fresh_tenant_state.field-0 in
    record {
      count = ap length c.in_ok-push.ensures.items ∙ length_push before shown ∙ ap (λ n. n + 1) c.loop-tenant.invariant.count;
      each = subst (EachOf (λ tenant of shown. IsFresh of shown) c.args.tenants.now) (sym c.in_ok-push.ensures.items)
          (each_of_more (λ tenant of shown. IsFresh of shown) c.args.tenants.now before index c.tenant-item.result shown c.loop-tenant.invariant.count
          c.tenant-item.is c.in_ok-fresh_tenant_state.ensures c.loop-tenant.invariant.each);
    }
