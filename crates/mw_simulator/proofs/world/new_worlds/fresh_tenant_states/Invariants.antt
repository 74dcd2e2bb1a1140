-- Loop invariants of `fresh_tenant_states` (src/world/new_worlds.rt).
use Rattle.std.proofs.Common.{◌≡◌, length}
use Rattle.mw_simulator.specs.Starts.{EachOf, IsFresh}
use Rattle.mw_simulator.proofs.world.new_worlds.fresh_tenant_states.Given as goal

abbrev pub invariant-loop-tenant : goal.invariant-loop-tenant
invariant-loop-tenant l = record {
  count : length l.tenant_states.items ≡ l.tenant-index;
  each : EachOf (λ tenant of shown. IsFresh of shown) l.tenants l.tenant_states.items;
}
