-- Goals of `put_left` (src/table.rt).
use Rattle.std.proofs.Common.{arith}
use Rattle.std.proofs.lemmas.Grind.{common_steps}
use Rattle.mw_report.specs.Table.{at_left}
use Rattle.mw_report.proofs.table.put_left.Goals as goal

pub returns-clause-column : goal.returns-clause-column
unfolding at_left
returns-clause-column c = grind (arith, common_steps)
