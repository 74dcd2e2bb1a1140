-- Goals of `put_kind` (src/tenant_lines.rt).
use Rattle.std.proofs.Common.{arith}
use Rattle.std.proofs.lemmas.Grind.{common_steps}
use Rattle.mw_metrics.specs.Figures.{kind_lines}
use Rattle.mw_metrics.proofs.tenant_lines.put_kind.Goals as goal

pub loop-reply-preserved : goal.loop-reply-preserved
unfolding kind_lines
loop-reply-preserved c = grind (arith, common_steps)
