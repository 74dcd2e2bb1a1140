-- Goals of `show_number` (src/lines.rt).
use Rattle.std.proofs.Common.{arith}
use Rattle.std.proofs.lemmas.Grind.{common_steps}
use Rattle.mw_file_text.proofs.lines.show_number.Goals as goal

pub returns : goal.returns
returns c = grind (arith, common_steps)
