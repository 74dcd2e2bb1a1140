-- Goals of `Shared::part` (src/meet.rt).
use Rattle.mw_rule.proofs.SplitLaws.{deals_keep}
use Rattle.mw_table.proofs.Meetings.{some_word}
use Rattle.mw_table.proofs.shared.Shared.part.Goals as goal

pub split_seat-requires : goal.split_seat-requires
split_seat-requires c = (c.requires.table, some_word c.args.self.now, deals_keep _ _ c.args.seat.now.id c.args.seat.now.me.0)
