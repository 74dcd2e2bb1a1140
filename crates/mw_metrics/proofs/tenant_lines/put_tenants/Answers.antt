-- Goals of `put_tenants` (src/tenant_lines.rt).
use Rattle.std.proofs.Common.{arith}
use Rattle.std.proofs.lemmas.Grind.{common_steps}
use Rattle.mw_metrics.specs.Figures.{of_tenants}
use Rattle.mw_metrics.proofs.tenant_lines.put_tenants.Goals as goal

pub returns-clause-families : goal.returns-clause-families
unfolding of_tenants
returns-clause-families c = grind (arith, common_steps)
