-- Goals of `first_text` (src/lines.rt).
use Rattle.std.proofs.Common.{arith}
use Rattle.std.proofs.lemmas.Grind.{common_steps}
use Rattle.mw_frame.proofs.Ends.{first_text}
use Rattle.mw_frame.proofs.lines.first_text.Goals as goal

pub returns-clause-first : goal.returns-clause-first
returns-clause-first c = grind (arith, common_steps, first_text)
