-- Goals of `Shared::look` (src/meet.rt).
use Rattle.mw_table.proofs.Meetings.{load_asks}
use Rattle.mw_table.proofs.shared.Shared.look.Goals as goal

pub load-requires : goal.load-requires
load-requires c = let asks = load_asks c.args.self.now c.args.seat.now.id c.args.seat.now.me c.requires.live in (c.requires.table, asks.0, asks.1)

pub returns-clause-event : goal.returns-clause-event
returns-clause-event c = c.load.ensures.2.1.run
