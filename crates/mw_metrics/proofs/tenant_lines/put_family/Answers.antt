-- Goals of `put_family` (src/tenant_lines.rt).
use Rattle.std.proofs.Common.{arith}
use Rattle.std.proofs.lemmas.Grind.{common_steps}
use Rattle.mw_metrics.specs.Figures.{tenant_family}
use Rattle.mw_metrics.proofs.tenant_lines.put_family.Goals as goal

pub loop-tenant-preserved : goal.loop-tenant-preserved
unfolding tenant_family
loop-tenant-preserved c = grind (arith, common_steps)

pub returns-clause-lines : goal.returns-clause-lines
unfolding tenant_family
returns-clause-lines c = grind (arith, common_steps)
