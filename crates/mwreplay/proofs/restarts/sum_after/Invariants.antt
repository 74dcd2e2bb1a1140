-- Loop invariants of `sum_after` (src/restarts.rt).
use Rattle.std.proofs.Common.{◌≡◌, ◌≤◌, ◌*◌}
use Rattle.mw_world.specs.Definition.State.{quotas_together}
use Rattle.mw_simulator.specs.Quotas.{quotas_in}
use Rattle.mwreplay.proofs.restarts.sum_after.Given as goal

-- the quotas so far are summed
abbrev pub invariant-loop-tenant : goal.invariant-loop-tenant
invariant-loop-tenant l = record {
  sum : l.together ≡ quotas_together (quotas_in l.world.tenant_states.items l.stops) l.tenant;
  few : l.together ≤ 255 * l.tenant;
}
