-- Proves the law `call_by_call`.
use Rattle.mw_frame.proofs.GivenLines.{given-at-first, given-then-fed, given-then-more, none-left}
use Rattle.mw_frame.proofs.laws.call_by_call.Goals as goal

pub returns : goal.returns
returns c = record { at_first = given-at-first; then_fed = given-then-fed; then_more = given-then-more; none_left = none-left }
