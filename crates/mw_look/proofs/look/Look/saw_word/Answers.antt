-- Goals of `Look::saw_word` (src/look.rt).
use Rattle.std.proofs.Common.{arith}
use Rattle.std.proofs.lemmas.Grind.{common_steps}
use Rattle.mw_look.proofs.look.Look.saw_word.Goals as goal

pub returns-in-RecheckWord : goal.returns-in-RecheckWord
returns-in-RecheckWord c = grind (arith, common_steps)
