-- Goals of `put_tenant` (src/table.rt).
use Rattle.std.proofs.Common.{arith}
use Rattle.std.proofs.lemmas.Grind.{common_steps}
use Rattle.mw_report.proofs.Widths.{widths}
use Rattle.mw_report.proofs.table.put_tenant.Goals as goal

pub returns-clause-line : goal.returns-clause-line
returns-clause-line c = grind (arith, common_steps)

pub returns-clause-room : goal.returns-clause-room
returns-clause-room c = grind (arith, common_steps)

pub put_right-requires-3-clause-fits : goal.put_right-requires-3-clause-fits
put_right-requires-3-clause-fits c = grind (arith, common_steps, widths)

pub put_right-requires-2-clause-fits : goal.put_right-requires-2-clause-fits
put_right-requires-2-clause-fits c = grind (arith, common_steps, widths)

pub put_right-requires-clause-fits : goal.put_right-requires-clause-fits
put_right-requires-clause-fits c = grind (arith, common_steps, widths)

pub put_right-requires-4-clause-fits : goal.put_right-requires-4-clause-fits
put_right-requires-4-clause-fits c = grind (arith, common_steps, widths)
