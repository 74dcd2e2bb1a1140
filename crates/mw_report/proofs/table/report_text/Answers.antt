-- Goals of `report_text` (src/table.rt).
use Rattle.std.proofs.Common.{arith}
use Rattle.std.proofs.lemmas.Grind.{common_steps}
use Rattle.mw_report.proofs.Widths.{widths}
use Rattle.mw_report.proofs.table.report_text.Goals as goal

pub loop-tenant-preserved : goal.loop-tenant-preserved
loop-tenant-preserved c = grind (arith, common_steps)

pub returns : goal.returns
returns c = grind (arith, common_steps)

pub put_number-requires : goal.put_number-requires
put_number-requires c = grind (arith, common_steps, widths)

pub put-requires-2 : goal.put-requires-2
put-requires-2 c = grind (arith, common_steps, widths)
