-- Goals of `put_requests` (src/tenant_lines.rt).
use Rattle.std.proofs.Common.{arith}
use Rattle.std.proofs.lemmas.Grind.{common_steps}
use Rattle.mw_metrics.specs.Figures.{request_lines}
use Rattle.mw_metrics.proofs.tenant_lines.put_requests.Goals as goal

pub loop-kind-preserved : goal.loop-kind-preserved
unfolding request_lines
loop-kind-preserved c = grind (arith, common_steps)
