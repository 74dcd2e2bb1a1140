-- Goals of `idle_worker_states` (src/world/new_worlds.rt).
use Rattle.std.proofs.Common.{subst, sym}
use Rattle.mw_simulator.specs.Starts.{AreIdle}
use Rattle.mw_simulator.proofs.FirstWorlds.{idle_none, idle_more}
use Rattle.mw_simulator.proofs.world.new_worlds.idle_worker_states.Goals as goal

pub loop-init : goal.loop-init
loop-init c = subst (AreIdle 0) (sym c.in_ok-worker_states.ensures.items) idle_none

pub loop-preserved : goal.loop-preserved
loop-preserved c = subst (AreIdle _) (sym c.in_ok-push.ensures.items) (idle_more _ _ _ c.loop.invariant c.idle.ensures)
