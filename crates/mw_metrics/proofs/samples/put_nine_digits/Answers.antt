-- Goals of `put_nine_digits` (src/samples.rt).
use Rattle.std.proofs.Common.{arith}
use Rattle.std.proofs.lemmas.Grind.{common_steps}
use Rattle.mw_metrics.specs.Exposition.{nine_digits}
use Rattle.mw_metrics.proofs.samples.put_nine_digits.Goals as goal

pub returns-clause-digits : goal.returns-clause-digits
unfolding nine_digits
returns-clause-digits c = grind (arith, common_steps)
