-- Goals of `put_unwell_name` (src/tenant_rows.rt).
use Rattle.std.proofs.Common.{arith}
use Rattle.std.proofs.lemmas.Grind.{common_steps}
use Rattle.mw_server_pages.specs.StatusPage.{unwell_name}
use Rattle.mw_server_pages.proofs.tenant_rows.put_unwell_name.Goals as goal

pub returns-then-not-is_well-clause-name : goal.returns-then-not-is_well-clause-name
unfolding unwell_name
returns-then-not-is_well-clause-name c = grind (arith, common_steps)
