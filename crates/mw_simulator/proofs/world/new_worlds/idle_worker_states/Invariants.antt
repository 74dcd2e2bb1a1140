-- Loop invariants of `idle_worker_states` (src/world/new_worlds.rt).
use Rattle.mw_simulator.specs.Starts.{AreIdle}
use Rattle.mw_simulator.proofs.world.new_worlds.idle_worker_states.Given as goal

abbrev pub invariant-loop : goal.invariant-loop
invariant-loop l = AreIdle l.counter l.worker_states.items
