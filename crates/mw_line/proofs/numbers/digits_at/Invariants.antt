-- Loop invariants of `digits_at` (src/numbers.rt).
use Rattle.std.proofs.Common.{◌≡◌, ℕ, length}
use Rattle.mw_line.specs.LineReader as spec
use Rattle.mw_line.specs.LineReader.{narrow}
use Rattle.mw_line.proofs.numbers.digits_at.Given as goal

-- the digits so far make a number, seen narrowly, and the digits that are left go on with it
abbrev pub invariant-loop-rest : goal.invariant-loop-rest
invariant-loop-rest l = (so_far : ℕ) × (l.number ≡ narrow.value so_far) × (spec.digits_at so_far l.rest ≡ spec.digits_at 0 l.fn.bytes)

abbrev pub decreases-loop-rest : goal.decreases-loop-rest
decreases-loop-rest l = length l.rest
