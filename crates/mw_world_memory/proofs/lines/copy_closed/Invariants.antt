-- Loop invariants of `copy_closed` (src/lines.rt).
use Rattle.std.proofs.Common.{◌≡◌, ◌++◌, take}
use Rattle.mw_world_memory.proofs.lines.copy_closed.Given as goal

abbrev pub invariant-loop-mark : goal.invariant-loop-mark
invariant-loop-mark l = l.marks.items ≡ l.fn.marks.items ++ take l.mark-index l.closed
