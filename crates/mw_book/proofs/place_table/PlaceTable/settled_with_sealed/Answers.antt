-- Goals of `PlaceTable::settled_with_sealed` (src/place_table.rt).
use Rattle.std.proofs.Common.{sym, ap, ◌||◌, ◌∙◌, inl, inr, arith}
use Rattle.std.proofs.lemmas.Bool.{cases_lt}
use Rattle.mw_words.specs.declared.limits.TheConstants.{MAX_PLACES}
use Rattle.mw_book.specs.SettledAhead.{is_sealed_stage}
use Rattle.mw_book.specs.Representation.{is_settled}
use Rattle.mw_book.proofs.PlacesAhead.{or_false, past_free_in}
use Rattle.mw_book.proofs.place_table.PlaceTable.settled_with_sealed.Goals as goal

pub returns : goal.returns
returns c place =
    let states = c.args.states.now in
    let table = c.args.self.now in
    elim (cases_lt place MAX_PLACES) [
      | inl low ↦ c.loop-place.invariant.so_far place (let done = c.loop-place-test.false in omega (arith, low, done))
      | inr past ↦
          c.loop-place.invariant.further place (let most = c.loop-place.auto.place-end in omega (arith, past, most)) ∙ sym (or_false (is_settled table place))
          ∙ sym (ap (λ s. is_settled table place || is_sealed_stage s) (past_free_in states table place (omega (arith, past)) (let few = c.requires.few in omega (arith, few, past))))
    ]
