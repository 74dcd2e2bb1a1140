-- Loop invariants of `free_sealed` (src/tenant_file.rt).
use Rattle.mw_file.proofs.SharedSettles.{IsFreedBelow}
use Rattle.mw_file.proofs.tenant_file.free_sealed.Given as goal

-- each sealed place so far is free
abbrev pub invariant-loop-state : goal.invariant-loop-state
invariant-loop-state l = IsFreedBelow l.state-index l.fn.states l.states
