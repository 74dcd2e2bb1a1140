-- Loop invariants of `are_sums` (src/sums.rt).
use Rattle.std.proofs.Common.{◌≡◌, ◌+◌, ◌<◌, ℕ, slice_index}
use Rattle.mwbench.specs.Sums.{capped, made_beside}
use Rattle.mwbench.proofs.sums.are_sums.Given as goal

-- the words below are right
abbrev pub invariant-loop-address : goal.invariant-loop-address
invariant-loop-address l = (k : ℕ) → k < l.address → slice_index l.after k ≡ capped (slice_index l.before k + made_beside 0 k l.done)
