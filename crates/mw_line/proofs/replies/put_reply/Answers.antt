-- Goals of `put_reply` (src/replies.rt).
use Rattle.std.proofs.Common.{length, decimal, ap, arith, length-append}
use Rattle.mw_line.proofs.Printed.{printed_long, no_front_short}
use Rattle.std.proofs.lemmas.Grind.{common_steps}
use Rattle.mw_line.proofs.Printed.{printed_short}
use Rattle.mw_line.proofs.replies.put_reply.Goals as goal

pub put_number-requires-in-No-2 : goal.put_number-requires-in-No-2
put_number-requires-in-No-2 c =
    omega (arith, printed_long c.in-No.value (omega arith), no_front_short c.args.text.now.items c.put-in-No.new.text.items c.put_number-in-No.new.text.items c.put-in-No-2.new.text.items c.from.result (omega arith) c.requires c.put-in-No.ensures c.put_number-in-No.ensures c.put-in-No-2.ensures)

pub returns-in-No-clause-room : goal.returns-in-No-clause-room
returns-in-No-clause-room c =
    omega (arith, printed_long c.in-No.value (omega arith), no_front_short c.args.text.now.items c.put-in-No.new.text.items c.put_number-in-No.new.text.items c.put-in-No-2.new.text.items c.from.result (omega arith) c.requires c.put-in-No.ensures c.put_number-in-No.ensures c.put-in-No-2.ensures, ap length c.put_number-in-No-2.ensures, length-append c.put-in-No-2.new.text.items (decimal c.in-No.value))

pub put_number-requires : goal.put_number-requires
put_number-requires c = grind (arith, common_steps, printed_long, printed_short)

pub put_number-requires-in-No : goal.put_number-requires-in-No
put_number-requires-in-No c = grind (arith, common_steps, printed_long, printed_short)

pub returns-in-Val-clause-room : goal.returns-in-Val-clause-room
returns-in-Val-clause-room c = grind (arith, common_steps, printed_long, printed_short)

pub put-requires-in-No-2 : goal.put-requires-in-No-2
put-requires-in-No-2 c = grind (arith, common_steps, printed_long, printed_short)
