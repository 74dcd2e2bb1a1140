-- Goals of `put_figures` (src/server_lines.rt).
use Rattle.std.proofs.Common.{arith}
use Rattle.std.proofs.lemmas.Grind.{common_steps}
use Rattle.mw_metrics.specs.Figures.{figure_families}
use Rattle.mw_metrics.proofs.server_lines.put_figures.Goals as goal

pub loop-figure-preserved : goal.loop-figure-preserved
unfolding figure_families
loop-figure-preserved c = grind (arith, common_steps)
