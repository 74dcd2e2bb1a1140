-- Goals of `LoanBox::lend` (src/loan_box.rt).
use Rattle.std.proofs.Common.{Some, rules, refl, sym, ◌∙◌}
use Rattle.mw_loan.proofs.Moves.{borrows_as, returns_as, found, put, same_content, taken}
use Rattle.mw_loan.proofs.loan_box.LoanBox.lend.Goals as goal

pub compare_exchange-requires : goal.compare_exchange-requires
compare_exchange-requires g c = (search rules, search rules, borrows_as _ _ _ _ _ c.seat-seat.ensures.new c.number-number.ensures)

pub slot_mut-requires : goal.slot_mut-requires
slot_mut-requires g c =
    let has = c.compare_exchange.ensures.2 c.if-compare_exchange-number.false in
    (search rules, (Some has.value, taken _ _ _ has.is))

pub store-requires : goal.store-requires
store-requires g c =
    let has = c.compare_exchange.ensures.2 c.if-compare_exchange-number.false in
    let new : g.row.T.Denot = c.borrower.new.arg2 in
    let shows = same_content c.in-Some.value has.value (sym c.in-Some.is ∙ found _ _ _ _ has.is c.slot_mut.ensures.value) in
    let goes_on = c.requires.lasts has.left has.value new has.goes_on (record { shown = _; shows = shows; left = _; met = c.borrower.ensures; leaves = refl }) in
    (search rules, search rules, returns_as _ _ _ _ has.left new (put _ _ _ _ _ has.is refl) goes_on)
