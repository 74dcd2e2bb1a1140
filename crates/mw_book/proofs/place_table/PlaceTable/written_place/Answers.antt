-- Goals of `PlaceTable::written_place` (src/place_table.rt).
use Rattle.std.proofs.Common.{sym, ◌∙◌}
use Rattle.mw_book.proofs.WrittenPlaces.{written_more}
use Rattle.mw_book.proofs.place_table.PlaceTable.written_place.Goals as goal

pub loop-place-preserved : goal.loop-place-preserved
loop-place-preserved c =
    written_more c.args.states.now c.args.self.now c.args.slot c.args.entries.now.items c.loop-place.place c.args.places c.loop-place-test.true (sym c.is_written.ensures ∙ c.if-is_written.false)
    ∙ c.loop-place.invariant
