-- Goals of `value_at` (src/numbers.rt).
use Rattle.std.proofs.Common.{arith}
use Rattle.std.proofs.lemmas.Grind.{common_steps}
use Rattle.mw_line.specs.LineReader.{number_at}
use Rattle.mw_line.proofs.numbers.value_at.Goals as goal

pub returns-in-48 : goal.returns-in-48
unfolding number_at
returns-in-48 c = grind (arith, common_steps)
