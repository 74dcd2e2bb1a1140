-- Goals of `one_more_label` (src/samples.rt).
use Rattle.std.proofs.Common.{arith}
use Rattle.std.proofs.lemmas.Grind.{common_steps}
use Rattle.mw_metrics.proofs.samples.one_more_label.Goals as goal

pub returns-clause-labels : goal.returns-clause-labels
returns-clause-labels c = grind (arith, common_steps)
