-- Loop invariants of `read_lines` (src/tenants.rt).
use Rattle.std.proofs.Common.{length}
use Rattle.mw_config.specs.LineTexts.{lines_of}
use Rattle.mw_config.specs.Refusals.{Reaches}
use Rattle.mw_config.proofs.tenants.read_lines.Given as goal

-- the tenants so far are those of lines with which nothing is wrong, and the rest comes after them
abbrev pub invariant-loop-rest : goal.invariant-loop-rest
invariant-loop-rest l = Reaches (lines_of l.tenants.items) l.rest l.fn.text

abbrev pub decreases-loop-rest : goal.decreases-loop-rest
decreases-loop-rest l = length l.rest
