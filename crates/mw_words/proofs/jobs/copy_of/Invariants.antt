-- Loop invariants of `copy_of` (src/jobs.rt).
use Rattle.std.proofs.Common.{◌≡◌, take}
use Rattle.mw_words.proofs.jobs.copy_of.Given as goal

-- the entries so far
abbrev pub invariant-loop-i : goal.invariant-loop-i
invariant-loop-i l = l.copy.items ≡ take l.i l.entries.items
