-- Loop invariants of `workers_of` (src/world_table/copies.rt).
use Rattle.std.proofs.Common.{◌≡◌, map, take}
use Rattle.mw_simulator.specs.FromMemory.{worker_state_of}
use Rattle.mw_table.specs.Runs.{worker_state_so_far}
use Rattle.mw_table_tests.proofs.world_table.copies.workers_of.Given as goal

abbrev pub invariant-loop-worker_state : goal.invariant-loop-worker_state
invariant-loop-worker_state l = map worker_state_so_far l.workers.items ≡ map worker_state_of (take l.worker_state-index l.worker_states)
