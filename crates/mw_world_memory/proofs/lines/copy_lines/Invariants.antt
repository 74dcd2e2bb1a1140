-- Loop invariants of `copy_lines` (src/lines.rt).
use Rattle.std.proofs.Common.{◌≡◌, ◌++◌, drop}
use Rattle.mw_world.specs.Definition.State.{marks_in}
use Rattle.mw_world_memory.proofs.lines.copy_lines.Given as goal

abbrev pub invariant-loop-line : goal.invariant-loop-line
invariant-loop-line l = l.marks.items ++ marks_in (drop l.line-index l.lines) ≡ l.fn.marks.items ++ marks_in l.lines
