-- Goals of `copy_line` (src/fault_limit.rt).
use Rattle.std.proofs.Common.{arith}
use Rattle.mw_connections.proofs.OneEnds.{one_end}
use Rattle.mw_connections.proofs.fault_limit.copy_line.Goals as goal

pub returns-clause-line : goal.returns-clause-line
returns-clause-line c = one_end c.args.bytes.now c.copy_from_slice.new.self _ c.min-count.result c.copy_from_slice.ensures.after (omega (arith, c.min-count.ensures, c.line_len.ensures.within)) (omega (arith, c.min-count.ensures, c.line_len.ensures.line))
