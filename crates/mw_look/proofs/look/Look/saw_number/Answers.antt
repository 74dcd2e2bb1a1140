-- Goals of `Look::saw_number` (src/look.rt).
use Rattle.std.proofs.Common.{arith}
use Rattle.std.proofs.lemmas.Grind.{common_steps}
use Rattle.mw_look.proofs.look.Look.saw_number.Goals as goal

pub returns-in-FindEntry : goal.returns-in-FindEntry
returns-in-FindEntry c = grind (arith, common_steps)

pub returns-in-ReadNew : goal.returns-in-ReadNew
returns-in-ReadNew c = grind (arith, common_steps)
