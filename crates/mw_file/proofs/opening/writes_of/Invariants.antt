-- Loop invariants of `writes_of` (src/opening.rt).
use Rattle.std.proofs.Common.{◌≡◌, take}
use Rattle.mw_record.specs.Damages.{pairs_in}
use Rattle.mw_file.proofs.opening.writes_of.Given as goal

-- the entries so far
abbrev pub invariant-loop-i : goal.invariant-loop-i
invariant-loop-i l = l.writes.items ≡ take l.i (pairs_in l.image l.place)
