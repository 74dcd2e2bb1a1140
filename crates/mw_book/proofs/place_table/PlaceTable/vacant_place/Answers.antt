-- Goals of `PlaceTable::vacant_place` (src/place_table.rt).
use Rattle.std.proofs.Common.{sym, ◌∙◌}
use Rattle.mw_book.proofs.FoundPlaces.{vacant_more}
use Rattle.mw_book.proofs.place_table.PlaceTable.vacant_place.Goals as goal

pub loop-place-preserved : goal.loop-place-preserved
loop-place-preserved c =
    vacant_more c.args.states.now c.args.self.now c.loop-place.place c.args.places c.loop-place-test.true (sym c.is_vacant.ensures ∙ c.if-is_vacant.false) ∙ c.loop-place.invariant
