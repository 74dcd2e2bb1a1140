-- Goals of `LoanBox::take_back` (src/loan_box.rt).
use Rattle.std.proofs.Common.{Some, rules, sym, ◌∙◌, subst}
use Rattle.mw_loan.proofs.Moves.{reopens_as, closes_as, taken, found, put, same_content}
use Rattle.mw_loan.proofs.loan_box.LoanBox.take_back.Goals as goal

pub compare_exchange-requires : goal.compare_exchange-requires
compare_exchange-requires g c = let own = c.requires.own in (search rules, search rules, reopens_as _ _ _ _ _ own.left own.is.owns c.number-number.ensures)

pub returns-then-compare_exchange-number-clause-kept :
    goal.returns-then-compare_exchange-number-clause-kept
returns-then-compare_exchange-number-clause-kept g c = λ left own. record { its = c.compare_exchange.ensures.0 ∙ own.its; owns = (c.compare_exchange.ensures.2 left own.owns).1 c.if-compare_exchange-number.true }

pub exchange-requires : goal.exchange-requires
exchange-requires g c =
    let own = c.requires.own in
    let has = (c.compare_exchange.ensures.2 own.left own.is.owns).0 c.if-compare_exchange-number.false in
    (search rules, (Some has.value, taken _ _ _ has.is))

pub store-requires : goal.store-requires
store-requires g c =
    let own = c.requires.own in
    let has = (c.compare_exchange.ensures.2 own.left own.is.owns).0 c.if-compare_exchange-number.false in
    (search rules, search rules, closes_as _ _ _ _ (put _ _ _ _ _ has.is c.exchange.ensures.3))

pub unreachable-requires : goal.unreachable-requires
unreachable-requires g c =
    let own = c.requires.own in
    let has = (c.compare_exchange.ensures.2 own.left own.is.owns).0 c.if-compare_exchange-number.false in
    let there = found _ _ _ _ has.is c.exchange.ensures.2 in
    let none = c.in-None.is in cc

pub returns-clause-taken : goal.returns-clause-taken
returns-clause-taken g c = λ left own.
    let has = (c.compare_exchange.ensures.2 left own.owns).0 c.if-compare_exchange-number.false in
    subst (λ (value : g.row.T.Denot). g.L.Lasting.lasts left value) (same_content has.value c.in-Some.value (sym (found _ _ _ _ has.is c.exchange.ensures.2) ∙ c.in-Some.is)) has.goes_on
