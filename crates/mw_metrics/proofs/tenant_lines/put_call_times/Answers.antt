-- Goals of `put_call_times` (src/tenant_lines.rt).
use Rattle.std.proofs.Common.{arith}
use Rattle.std.proofs.lemmas.Grind.{common_steps}
use Rattle.mw_metrics.specs.Figures.{call_times}
use Rattle.mw_metrics.proofs.tenant_lines.put_call_times.Goals as goal

pub loop-call-preserved : goal.loop-call-preserved
unfolding call_times
loop-call-preserved c = grind (arith, common_steps)
