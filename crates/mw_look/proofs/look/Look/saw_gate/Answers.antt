-- Goals of `Look::saw_gate` (src/look.rt).
use Rattle.std.proofs.Common.{arith}
use Rattle.std.proofs.lemmas.Grind.{common_steps}
use Rattle.mw_look.proofs.look.Look.saw_gate.Goals as goal

pub returns-in-Unpin-2 : goal.returns-in-Unpin-2
returns-in-Unpin-2 c = grind (arith, common_steps)

pub returns-in-Unpin : goal.returns-in-Unpin
returns-in-Unpin c = grind (arith, common_steps)
