-- Loop invariants of `each_can_be` (src/world/restarts.rt).
use Rattle.std.proofs.Common.{◌≡◌, true}
use Rattle.mw_world.specs.Definition.State.{each_fits}
use Rattle.mw_simulator.specs.Quotas.{places_in, quotas_in}
use Rattle.mw_simulator.proofs.world.restarts.each_can_be.Given as goal

abbrev pub invariant-loop-tenant : goal.invariant-loop-tenant
invariant-loop-tenant l = each_fits (quotas_in l.tenant_states l.stops) (places_in l.tenant_states) l.tenant ≡ true
