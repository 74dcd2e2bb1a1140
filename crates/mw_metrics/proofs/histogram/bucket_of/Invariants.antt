-- Loop invariants of `bucket_of` (src/histogram.rt).
use Rattle.std.proofs.Common.{ℕ, ◌<◌, get_or}
use Rattle.mw_metrics.specs.declared.histogram.TheConstants.{BOUNDS}
use Rattle.mw_metrics.proofs.histogram.bucket_of.Given as goal

-- the bounds so far are below the duration
abbrev pub invariant-loop-k : goal.invariant-loop-k
invariant-loop-k l = (k : ℕ) → k < l.k → get_or BOUNDS k 0 < l.nanos
