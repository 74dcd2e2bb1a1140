-- Loop invariants of `copy_of_name` (src/names.rt).
use Rattle.std.proofs.Common.{◌≡◌, take}
use Rattle.mw_words.proofs.names.copy_of_name.Given as goal

-- the bytes so far are copied
abbrev pub invariant-loop-i : goal.invariant-loop-i
invariant-loop-i l = l.copy.items ≡ take l.i l.name.items
