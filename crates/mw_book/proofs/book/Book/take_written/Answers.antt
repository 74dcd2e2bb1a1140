-- Goals of `Book::take_written` (src/book.rt).
use Rattle.std.proofs.Common.{◌<◌, refl, sym, ap, subst, ◌∙◌, arith}
use Rattle.mw_book.specs.declared.place_table.PlaceTable.{PlaceTable}
use Rattle.mw_book.specs.FilePlaces.{IsPermutation}
use Rattle.mw_book.specs.OpenFile.{states_in}
use Rattle.mw_book.specs.Permits.{vacant_place}
use Rattle.mw_book.specs.PreparedAhead.{written_place}
use Rattle.mw_book.proofs.RepresentedFiles.{there_held}
use Rattle.mw_book.proofs.TakenPlaces.{prepare_taken, taken_permutes}
use Rattle.mw_book.proofs.WrittenPlaces.{written_last}
use Rattle.std.proofs.lemmas.Grind.{common_steps}
use Rattle.mw_book.proofs.book.Book.take_written.Goals as goal

pub take-requires-clause-written : goal.take-requires-clause-written
take-requires-clause-written g c =
    let old = c.args.self.now in
    let is = c.written_place-written.ensures in
    let last = written_last c.states.result.now old.table c.args.slot c.args.entries.now.items 0 old.places in
    let other = c.if-written-self.false in
    let most = there_held g.D.Disk.facts old c.in-Some.file c.in-Some.is in
    let few = c.in-Some.file.few in
    omega (arith, is, last, other, most, few)

pub invariant_of-self-2-clause-permuted : goal.invariant_of-self-2-clause-permuted
invariant_of-self-2-clause-permuted g c =
    let old = c.args.self.now in
    let is = c.written_place-written.ensures in
    let last = written_last c.states.result.now old.table c.args.slot c.args.entries.now.items 0 old.places in
    let other = c.if-written-self.false in
    let most = there_held g.D.Disk.facts old c.in-Some.file c.in-Some.is in
    let few = c.in-Some.file.few in
    let also : c.written_place-written.result < old.places = omega (arith, is, last, other) in
    let at = c.vacant_place-place.ensures ∙ ap (λ states. vacant_place states old.table old.places) c.states-2.ensures ∙ sym (ap (λ held. vacant_place (states_in held) old.table old.places) c.in-Some.is) in
    let used : c.vacant_place-place.result < old.places = (let lt = c.requires.room in omega (arith, at, lt)) in
    subst (λ (table : PlaceTable). IsPermutation table.file_place old.places) (sym c.take.ensures)
    (taken_permutes old.table c.vacant_place-place.result c.written_place-written.result (omega (arith, used, most, few)) (omega (arith, also, most, few)) (omega arith) old.places old.permuted used also)

pub returns-clause-taken : goal.returns-clause-taken
returns-clause-taken g c well most_ahead =
    let old = c.args.self.now in
    let is = c.written_place-written.ensures in
    let last = written_last c.states.result.now old.table c.args.slot c.args.entries.now.items 0 old.places in
    let other = c.if-written-self.false in
    let most = there_held g.D.Disk.facts old c.in-Some.file c.in-Some.is in
    let few = c.in-Some.file.few in
    let also : c.written_place-written.result < old.places = omega (arith, is, last, other) in
    let at = c.vacant_place-place.ensures ∙ ap (λ states. vacant_place states old.table old.places) c.states-2.ensures ∙ sym (ap (λ held. vacant_place (states_in held) old.table old.places) c.in-Some.is) in
    let used : c.vacant_place-place.result < old.places = (let lt = c.requires.room in omega (arith, at, lt)) in
    prepare_taken g.D.Disk.facts old _ c.args.slot c.vacant_place-place.result c.written_place-written.result c.args.entries.now.items most_ahead at c.requires.room
    (is ∙ ap (λ states. written_place states old.table c.args.slot c.args.entries.now.items old.places) c.states.ensures
    ∙ sym (ap (λ held. written_place (states_in held) old.table c.args.slot c.args.entries.now.items old.places) c.in-Some.is))
    also c.requires.sound (omega (arith, c.ranges.slot.fits)) (omega arith) (omega (arith, used, most, few)) (omega (arith, also, most, few)) (omega arith)
    (record { is_held = refl; is_words = refl; is_places = refl; is_place_of = refl; is_table = c.take.ensures; is_failed = refl })

pub returns-then-written-self-clause-taken : goal.returns-then-written-self-clause-taken
returns-then-written-self-clause-taken c = grind (arith, common_steps)
