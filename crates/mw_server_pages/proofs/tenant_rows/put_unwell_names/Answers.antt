-- Goals of `put_unwell_names` (src/tenant_rows.rt).
use Rattle.std.proofs.Common.{arith}
use Rattle.std.proofs.lemmas.Grind.{common_steps}
use Rattle.mw_server_pages.proofs.tenant_rows.put_unwell_names.Goals as goal

pub returns-clause-names : goal.returns-clause-names
returns-clause-names c = grind (arith, common_steps)

pub loop-tenant-preserved : goal.loop-tenant-preserved
loop-tenant-preserved c = grind (arith, common_steps)
