-- Loop invariants of `are_writes_of` (src/place_table.rt).
use Rattle.std.proofs.Common.{◌≡◌, drop}
use Rattle.mw_book.specs.PreparedAhead.{are_writes_of}
use Rattle.mw_book.proofs.place_table.are_writes_of.Given as goal

-- what is left tells whether all of them are
abbrev pub invariant-loop-i : goal.invariant-loop-i
invariant-loop-i l = are_writes_of (drop l.i l.writes) (drop l.i l.entries) ≡ are_writes_of l.writes l.entries
