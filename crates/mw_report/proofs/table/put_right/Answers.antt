-- Goals of `put_right` (src/table.rt).
use Rattle.std.proofs.Common.{arith}
use Rattle.std.proofs.lemmas.Grind.{common_steps}
use Rattle.mw_report.specs.Table.{at_right}
use Rattle.mw_report.proofs.table.put_right.Goals as goal

pub returns-clause-column : goal.returns-clause-column
unfolding at_right
returns-clause-column c = grind (arith, common_steps)
