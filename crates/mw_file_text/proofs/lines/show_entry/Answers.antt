-- Goals of `show_entry` (src/lines.rt).
use Rattle.std.proofs.Common.{arith}
use Rattle.std.proofs.lemmas.Grind.{common_steps}
use Rattle.mw_file_text.proofs.lines.show_entry.Goals as goal

pub returns : goal.returns
returns c = grind (arith, common_steps)
