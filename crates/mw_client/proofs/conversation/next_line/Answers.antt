-- Goals of `next_line` (src/conversation.rt).
use Rattle.std.proofs.Common.{arith}
use Rattle.std.proofs.lemmas.Grind.{common_steps}
use Rattle.mw_client.proofs.conversation.next_line.Goals as goal

pub loop-preserved : goal.loop-preserved
loop-preserved c = grind (arith, common_steps)

pub returns-in-Some-eq10 : goal.returns-in-Some-eq10
returns-in-Some-eq10 c = grind (arith, common_steps)
