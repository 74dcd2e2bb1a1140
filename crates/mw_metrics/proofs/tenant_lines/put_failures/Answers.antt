-- Goals of `put_failures` (src/tenant_lines.rt).
use Rattle.std.proofs.Common.{arith}
use Rattle.std.proofs.lemmas.Grind.{common_steps}
use Rattle.mw_metrics.specs.Figures.{failure_lines}
use Rattle.mw_metrics.proofs.tenant_lines.put_failures.Goals as goal

pub loop-call-preserved : goal.loop-call-preserved
unfolding failure_lines
loop-call-preserved c = grind (arith, common_steps)
