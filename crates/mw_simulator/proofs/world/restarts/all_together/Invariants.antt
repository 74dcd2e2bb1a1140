-- Loop invariants of `all_together` (src/world/restarts.rt).
use Rattle.std.proofs.Common.{◌≡◌, ◌≤◌, ◌*◌}
use Rattle.mw_world.specs.Definition.State.{quotas_together}
use Rattle.mw_simulator.specs.Quotas.{quotas_in}
use Rattle.mw_simulator.proofs.world.restarts.all_together.Given as goal

abbrev pub invariant-loop-tenant : goal.invariant-loop-tenant
invariant-loop-tenant l = record {
  sum : l.together ≡ quotas_together (quotas_in l.tenant_states l.stops) l.tenant;
  few : l.together ≤ 255 * l.tenant;
}
