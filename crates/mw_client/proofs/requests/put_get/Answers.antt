-- Goals of `put_get` (src/requests.rt).
use Rattle.std.proofs.Common.{arith}
use Rattle.mw_client.proofs.Printed.{get_from}
use Rattle.std.proofs.lemmas.Grind.{common_steps}
use Rattle.mw_client.proofs.Widths.{widths}
use Rattle.mw_client.proofs.requests.put_get.Goals as goal

pub returns-clause-command : goal.returns-clause-command
returns-clause-command c =
    get_from c.args.addr c.from.result c.args.text.now.items c.put.new.text.items c.put_number.new.text.items c.from.ensures (omega arith) c.requires c.put.ensures.bytes c.put_number.ensures.number

pub put_number-requires : goal.put_number-requires
put_number-requires c = grind (arith, common_steps, widths)

pub returns-clause-room : goal.returns-clause-room
returns-clause-room c = grind (arith, common_steps, widths)
