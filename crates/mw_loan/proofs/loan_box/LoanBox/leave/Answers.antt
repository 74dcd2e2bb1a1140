-- Goals of `LoanBox::leave` (src/loan_box.rt).
use Rattle.std.proofs.Common.{rules}
use Rattle.mw_loan.proofs.Moves.{opens_as, leaves_as, put}
use Rattle.mw_loan.proofs.loan_box.LoanBox.leave.Goals as goal

pub compare_exchange-requires : goal.compare_exchange-requires
compare_exchange-requires g c = (search rules, search rules, opens_as _ _ _ _ c.seat-seat.ensures.new)

pub store-requires : goal.store-requires
store-requires g c =
    let has = put _ _ _ _ _ (c.compare_exchange.ensures.2 c.if-compare_exchange-ne-EMPTY.false) c.exchange.ensures.3 in
    (search rules, search rules, leaves_as _ _ _ _ c.args.value has c.requires.lasts)

pub returns-clause-left : goal.returns-clause-left
returns-clause-left g c =
    let has = put _ _ _ _ _ (c.compare_exchange.ensures.2 c.if-compare_exchange-ne-EMPTY.false) c.exchange.ensures.3 in
    record { its = search rules; owns = c.store.ensures.2 c.args.value has }
