-- Goals of `put_request_times` (src/tenant_lines.rt).
use Rattle.std.proofs.Common.{arith}
use Rattle.std.proofs.lemmas.Grind.{common_steps}
use Rattle.mw_metrics.specs.Figures.{request_times}
use Rattle.mw_metrics.proofs.tenant_lines.put_request_times.Goals as goal

pub loop-kind-preserved : goal.loop-kind-preserved
unfolding request_times
loop-kind-preserved c = grind (arith, common_steps)
