-- Goals of `follow` (src/world/restarts.rt).
use Rattle.std.proofs.Common.{arith}
use Rattle.mw_simulator.proofs.TakenOverMarks.{all_followed, one_followed}
use Rattle.mw_simulator.proofs.world.restarts.follow.Goals as goal

pub loop-tenant-preserved : goal.loop-tenant-preserved
loop-tenant-preserved c =
    let have = c.loop-tenant.invariant in
    one_followed c.args.before.now.items c.args.tenant_states.now.items c.loop-tenant.before.items c.loop-tenant.tenant_states.items c.loop-tenant.tenant
    c.index_mut.result.now c.index_mut-in-loop-tenant.result.now have
    (omega (arith, c.loop-tenant-test.true, c.len-tenant-end.ensures, c.args.tenant_states.now.ok.0, c.requires.count, have.olds_long))
    (omega (arith, c.loop-tenant-test.true, c.len-tenant-end.ensures, c.args.tenant_states.now.ok.0, have.long))
    c.index_mut.ensures.value c.index_mut-in-loop-tenant.ensures.value c.take_over.new.before c.take_over.new.tenant_state c.take_over.ensures

pub returns-clause-follow : goal.returns-clause-follow
returns-clause-follow c =
    all_followed c.args.before.now.items c.args.tenant_states.now.items c.loop-tenant.before.items c.loop-tenant.tenant_states.items c.loop-tenant.tenant c.loop-tenant.invariant
    (omega (arith, c.loop-tenant-test.false, c.len-tenant-end.ensures, c.args.tenant_states.now.ok.0))
