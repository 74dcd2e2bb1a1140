-- Loop invariants of `changes_of` (src/sums.rt).
use Rattle.std.proofs.Common.{◌≡◌, drop}
use Rattle.mwbench.specs.Sums.{made_beside}
use Rattle.mwbench.proofs.sums.changes_of.Given as goal

-- those that are left, beside the sum so far, make the whole
abbrev pub invariant-loop-one : goal.invariant-loop-one
invariant-loop-one l = made_beside l.sum l.address (drop l.one-index l.done) ≡ made_beside 0 l.address l.done
