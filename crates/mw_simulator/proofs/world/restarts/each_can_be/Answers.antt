-- Goals of `each_can_be` (src/world/restarts.rt).
use Rattle.std.proofs.Common.{◌<◌, length, arith}
use Rattle.mw_simulator.proofs.Quotas.{one_can, one_cannot}
use Rattle.mw_simulator.proofs.world.restarts.each_can_be.Goals as goal

pub returns-then-not-can_be : goal.returns-then-not-can_be
returns-then-not-can_be c =
    let there : c.loop-tenant.tenant < length c.args.tenant_states.now = omega (arith, c.loop-tenant-test.true) in
    one_cannot c.args.tenant_states.now c.args.stops.now c.loop-tenant.tenant c.quota_told.result c.index-tenant_states-tenant.result c.can_be.result there c.index-tenant_states-tenant.is
    c.quota_told.ensures c.can_be.ensures c.if-not-can_be.true

pub loop-tenant-preserved : goal.loop-tenant-preserved
loop-tenant-preserved c =
    let there : c.loop-tenant.tenant < length c.args.tenant_states.now = omega (arith, c.loop-tenant-test.true) in
    one_can c.args.tenant_states.now c.args.stops.now c.loop-tenant.tenant c.quota_told.result c.index-tenant_states-tenant.result c.can_be.result there c.index-tenant_states-tenant.is
    c.quota_told.ensures c.can_be.ensures c.if-not-can_be.false c.loop-tenant.invariant
