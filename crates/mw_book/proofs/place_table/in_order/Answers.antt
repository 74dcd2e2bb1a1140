-- Goals of `in_order` (src/place_table.rt).
use Rattle.std.proofs.Common.{inl, inr, arith}
use Rattle.std.proofs.lemmas.Bool.{cases_lt}
use Rattle.std.proofs.lemmas.List.{get_or_past}
use Rattle.mw_words.specs.declared.limits.TheConstants.{MAX_PLACES}
use Rattle.mw_book.proofs.place_table.in_order.Goals as goal

pub returns : goal.returns
returns c place = elim (cases_lt place MAX_PLACES) [
  | inl low ↦ c.loop-place.invariant.so_far place (let done = c.loop-place-test.false in omega (arith, low, done))
  | inr past ↦ get_or_past c.loop-place.table place place (let long = c.loop-place.invariant.long in omega (arith, long, past))
]
