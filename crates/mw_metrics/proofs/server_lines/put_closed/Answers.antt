-- Goals of `put_closed` (src/server_lines.rt).
use Rattle.std.proofs.Common.{arith}
use Rattle.std.proofs.lemmas.Grind.{common_steps}
use Rattle.mw_metrics.specs.Figures.{closed_family}
use Rattle.mw_metrics.proofs.server_lines.put_closed.Goals as goal

pub returns-clause-family : goal.returns-clause-family
unfolding closed_family
returns-clause-family c = grind (arith, common_steps)

pub loop-reason-preserved : goal.loop-reason-preserved
unfolding closed_family
loop-reason-preserved c = grind (arith, common_steps)
