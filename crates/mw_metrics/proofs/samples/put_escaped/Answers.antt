-- Goals of `put_escaped` (src/samples.rt).
use Rattle.std.proofs.Common.{arith}
use Rattle.std.proofs.lemmas.Grind.{common_steps}
use Rattle.mw_metrics.specs.Exposition.{escaped}
use Rattle.mw_metrics.proofs.samples.put_escaped.Goals as goal

pub loop-byte-preserved : goal.loop-byte-preserved
unfolding escaped
loop-byte-preserved c = grind (arith, common_steps)

pub returns-clause-value : goal.returns-clause-value
unfolding escaped
returns-clause-value c = grind (arith, common_steps)
