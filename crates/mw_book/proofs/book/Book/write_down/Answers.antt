-- Goals of `Book::write_down` (src/book.rt).
use Rattle.std.proofs.Common.{◌+◌, length, refl, sym, ap, subst, ◌∙◌, arith}
use Rattle.mw_file.specs.File.{states_of, MetFault}
use Rattle.mw_file.specs.NewChanges.{MayPrepare}
use Rattle.mw_file.proofs.Ended.{ended_well, went_well}
use Rattle.mw_book.specs.ChosenPlaces.{AreAhead, AreChosen, free_within}
use Rattle.mw_book.specs.OpenFile.{states_in}
use Rattle.mw_book.specs.Permits.{HasPlace, vacant_place}
use Rattle.mw_book.specs.Representation.{is_prepared_ahead, stage_in_file}
use Rattle.mw_book.proofs.FiledCalls.{met_fault, one_longer, prepare_broken, prepare_made}
use Rattle.mw_words.specs.Change.{is_change}
use Rattle.mw_book.proofs.PlacedAhead.{may_with_own}
use Rattle.mw_book.proofs.FoundPlaces.{vacant_free}
use Rattle.mw_book.specs.RecordsAhead.{first_ready}
use Rattle.mw_book.proofs.RepresentedFiles.{failed_as, there_held, words_held}
use Rattle.std.proofs.lemmas.Grind.{common_steps}
use Rattle.mw_book.proofs.book.Book.write_down.Goals as goal

pub prepare_all-requires : goal.prepare_all-requires
prepare_all-requires g c =
    let old = c.args.self.now in
    let file = c.in-Some.file in
    let at = c.requires.lowest ∙ ap (λ held. vacant_place (states_in held) old.table old.places) c.in-Some.is in
    let room = subst (λ held. HasPlace (states_in held) old.table old.places) c.in-Some.is c.requires.room.room in
    subst (λ words. MayPrepare words (states_of file) c.as_slice.result.now) (sym (words_held g.D.Disk.facts old file c.in-Some.is))
    (may_with_own old.words (states_of file) old.table c.choose.new.self.table old.places (c.args.place + 1) c.choose.new.self.changes.items c.as_slice.result.now c.choose.new.self.top c.args.place _
    (subst (λ states. AreChosen old.words states old.table old.places (c.args.place + 1) c.choose.new.self.table c.choose.new.self.changes.items c.choose.new.self.top) c.states.ensures c.choose.ensures.chosen)
    old.permuted (there_held g.D.Disk.facts old file c.in-Some.is) (omega (arith, at, room)) (omega arith)
    (ap (λ n. stage_in_file (states_of file) old.table n) at ∙ vacant_free (states_of file) old.table old.places room (sym (ap (is_prepared_ahead old.table) at) ∙ c.requires.none_ahead))
    c.file_place-number.ensures (ap (λ es. is_change old.words es.items) c.copy_of.ensures ∙ c.requires.room.formed) (c.as_slice.ensures.value ∙ c.push.ensures.items))

pub returns-then-is_err-clause-filed : goal.returns-then-is_err-clause-filed
returns-then-is_err-clause-filed g c =
    let old = c.args.self.now in
    let bad = sym c.is_err.ensures.value ∙ c.if-is_err.true in
    prepare_broken g.D.Disk.facts old _ c.in-Some.file c.prepare_all.new.self c.in-Some.is c.prepare_all.ensures.later c.prepare_all.ensures.safe c.args.slot c.args.place c.args.entries.now.items
    c.args.waiting.now c.choose.new.self.table c.choose.new.self.changes.items
    (c.requires.lowest ∙ ap (λ held. vacant_place (states_in held) old.table old.places) c.in-Some.is) c.requires.none_ahead
    (subst (λ held. HasPlace (states_in held) old.table old.places) c.in-Some.is c.requires.room.room) c.requires.none_written
    (subst (λ states. AreAhead old.table c.choose.new.self.table old.places c.choose.new.self.changes.items (first_ready old.words states old.table old.places c.args.slot (free_within states old.table (c.args.place + 1) old.places) c.args.waiting.now)) c.states.ensures
    c.choose.ensures.ahead)
    (record { is_held = refl; is_words = refl; is_places = refl; is_place_of = refl; is_table = refl; is_failed = refl }) c.requires.sound
    (subst (λ n. MetFault g.D.Disk.facts n c.in-Some.file c.prepare_all.new.self) (one_longer c.choose.new.self.changes.items c.as_slice.result.now _ (c.as_slice.ensures.value ∙ c.push.ensures.items))
    (met_fault g.D.Disk.facts (length c.as_slice.result.now + 1) c.in-Some.file c.prepare_all.new.self c.prepare_all.result bad (failed_as g.D.Disk.facts old c.in-Some.file c.in-Some.is ∙ c.requires.sound) c.prepare_all.ensures.ends))

pub returns-clause-filed : goal.returns-clause-filed
returns-clause-filed g c =
    let old = c.args.self.now in
    let file = c.in-Some.file in
    let well = sym c.is_err.ensures.value ∙ c.if-is_err.false in
    prepare_made g.D.Disk.facts old _ file c.prepare_all.new.self c.in-Some.is c.prepare_all.ensures.later c.prepare_all.ensures.safe c.args.slot c.args.place c.args.entries.now.items
    c.args.waiting.now c.choose.new.self.table c.choose.new.self.changes.items c.as_slice.result.now c.choose.new.self.top _ (c.as_slice.ensures.value ∙ c.push.ensures.items)
    (c.requires.lowest ∙ ap (λ held. vacant_place (states_in held) old.table old.places) c.in-Some.is) c.requires.none_ahead c.requires.none_written
    (subst (λ states. AreChosen old.words states old.table old.places (c.args.place + 1) c.choose.new.self.table c.choose.new.self.changes.items c.choose.new.self.top) c.states.ensures c.choose.ensures.chosen)
    (subst (λ states. AreAhead old.table c.choose.new.self.table old.places c.choose.new.self.changes.items (first_ready old.words states old.table old.places c.args.slot (free_within states old.table (c.args.place + 1) old.places) c.args.waiting.now)) c.states.ensures
    c.choose.ensures.ahead)
    c.file_place-number.ensures (ap (λ es. es.items) c.copy_of.ensures)
    (record { is_held = refl; is_words = refl; is_places = refl; is_place_of = refl; is_table = refl; is_failed = refl }) c.requires.sound (omega (arith, c.ranges.slot.fits)) (omega arith)
    (ended_well g.D.Disk.facts (length c.as_slice.result.now + 1) file c.prepare_all.new.self c.prepare_all.result well c.prepare_all.ensures.ends)
    (went_well c.prepare_all.result _ well c.prepare_all.ensures.staged)
    (subst (λ held. HasPlace (states_in held) old.table old.places) c.in-Some.is c.requires.room.room)

pub returns-then-is_err-clause-tried : goal.returns-then-is_err-clause-tried
returns-then-is_err-clause-tried c = grind (arith, common_steps)

pub returns-clause-tried : goal.returns-clause-tried
returns-clause-tried c = grind (arith, common_steps)
