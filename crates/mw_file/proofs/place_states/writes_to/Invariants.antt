-- Loop invariants of `writes_to` (src/place_states.rt).
use Rattle.std.proofs.Common.{◌≡◌, take}
use Rattle.mw_record.specs.Layout.{pairs_of}
use Rattle.mw_file.proofs.place_states.writes_to.Given as goal

-- what the entries so far write
abbrev pub invariant-loop-i : goal.invariant-loop-i
invariant-loop-i l = l.writes.items ≡ pairs_of (take l.i l.entries.items)
