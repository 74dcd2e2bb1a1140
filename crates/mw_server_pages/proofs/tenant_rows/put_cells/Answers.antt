-- Goals of `put_cells` (src/tenant_rows.rt).
use Rattle.std.proofs.Common.{arith}
use Rattle.std.proofs.lemmas.Grind.{common_steps}
use Rattle.mw_server_pages.specs.StatusPage.{cells}
use Rattle.mw_server_pages.proofs.tenant_rows.put_cells.Goals as goal

pub returns-clause-cells : goal.returns-clause-cells
unfolding cells
returns-clause-cells c = grind (arith, common_steps)
