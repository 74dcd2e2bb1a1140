-- Goals of `Say::text` (src/replies.rt).
use Rattle.std.proofs.Common.{arith}
use Rattle.std.proofs.lemmas.Grind.{common_steps}
use Rattle.mw_line.proofs.Printed.{printed_long}
use Rattle.mw_line.proofs.replies.Say.text.Goals as goal

pub put_number-requires-in-Err : goal.put_number-requires-in-Err
put_number-requires-in-Err c = grind (arith, common_steps, printed_long)

pub put_number-requires : goal.put_number-requires
put_number-requires c = grind (arith, common_steps, printed_long)

pub put-requires-2 : goal.put-requires-2
put-requires-2 c = grind (arith, common_steps, printed_long)
