-- Loop invariants of `pass_states_of` (src/after_run.rt).
use Rattle.std.proofs.Common.{◌≡◌, map, take}
use Rattle.mw_table.specs.NewPasses.{pass_state_of}
use Rattle.mw_table.specs.Runs.{worker_state_so_far}
use Rattle.mw_table.proofs.after_run.pass_states_of.Given as goal

abbrev pub invariant-loop-worker : goal.invariant-loop-worker
invariant-loop-worker l = l.pass_states.items ≡ map (λ worker. pass_state_of (worker_state_so_far worker)) (take l.worker-index l.workers)
