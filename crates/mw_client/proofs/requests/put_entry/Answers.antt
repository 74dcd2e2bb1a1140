-- Goals of `put_entry` (src/requests.rt).
use Rattle.std.proofs.Common.{arith}
use Rattle.mw_client.proofs.Printed.{entry_from}
use Rattle.std.proofs.lemmas.Grind.{common_steps}
use Rattle.mw_client.proofs.Widths.{widths}
use Rattle.mw_client.proofs.requests.put_entry.Goals as goal

pub returns-clause-entry : goal.returns-clause-entry
returns-clause-entry c =
    entry_from c.args.entry.now c.from.result c.args.text.now.items c.put.new.text.items c.put_number.new.text.items c.put-2.new.text.items c.put_number-2.new.text.items c.put-3.new.text.items c.put_number-3.new.text.items
    c.from.ensures (omega arith) c.requires.values.expected c.requires.values.new c.put.ensures.bytes c.put_number.ensures.number c.put-2.ensures.bytes c.put_number-2.ensures.number c.put-3.ensures.bytes c.put_number-3.ensures.number

pub returns-clause-room : goal.returns-clause-room
returns-clause-room c = grind (arith, common_steps, widths)

pub put_number-requires-2 : goal.put_number-requires-2
put_number-requires-2 c = grind (arith, common_steps, widths)

pub put_number-requires : goal.put_number-requires
put_number-requires c = grind (arith, common_steps, widths)

pub put_number-requires-3 : goal.put_number-requires-3
put_number-requires-3 c = grind (arith, common_steps, widths)

pub put-requires-2 : goal.put-requires-2
put-requires-2 c = grind (arith, common_steps, widths)

pub put-requires-3 : goal.put-requires-3
put-requires-3 c = grind (arith, common_steps, widths)
