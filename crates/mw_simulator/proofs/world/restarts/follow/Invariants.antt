-- Loop invariants of `follow` (src/world/restarts.rt).
use Rattle.mw_simulator.proofs.TakenOverMarks.{HaveFollowed}
use Rattle.mw_simulator.proofs.world.restarts.follow.Given as goal

-- the tenants so far have taken over their marks
abbrev pub invariant-loop-tenant : goal.invariant-loop-tenant
invariant-loop-tenant l = HaveFollowed l.fn.before.items l.fn.tenant_states.items l.before.items l.tenant_states.items l.tenant
