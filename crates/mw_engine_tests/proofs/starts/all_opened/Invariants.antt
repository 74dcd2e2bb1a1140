-- Loop invariants of `all_opened` (src/starts.rt).
use Rattle.std.proofs.Common.{take}
use Rattle.mw_engine.specs.OpenedFiles.{FitLines}
use Rattle.mw_engine_tests.proofs.starts.all_opened.Given as goal

-- the files so far are those of the lines so far
abbrev pub invariant-loop-line : goal.invariant-loop-line
invariant-loop-line g l = FitLines g.D.Disk.facts (take l.line-index l.fn.lines) l.files.items
