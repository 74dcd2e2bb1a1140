-- Goals of `Book::settle` (src/book.rt).
use Rattle.std.proofs.Common.{◌≡◌, length, ◌+◌, ◌||◌, false, refl, slice_set, subst, sym, ap, ◌∙◌, arith}
use Rattle.mw_look.specs.declared.steps.Call.TheVariants.{Settle as SettleCall, Cancel as CancelCall}
use Rattle.mw_file.specs.declared.place_states.Stage.TheVariants.{Sealed}
use Rattle.mw_file.specs.File.{states_of, MetFault, WentWell}
use Rattle.mw_file.specs.NewChanges.{AreSettledWith, MayPrepare}
use Rattle.mw_book.specs.ChosenPlaces.{AreAhead, AreChosen, free_within}
use Rattle.mw_book.specs.RecordsAhead.{first_ready}
use Rattle.mw_file.specs.PlaceStates.{roll_calls}
use Rattle.mw_file.proofs.Ended.{ended_well, went_well}
use Rattle.mw_book.specs.SettledAhead.{is_sealed_stage}
use Rattle.mw_book.specs.OpenFile.{states_in}
use Rattle.mw_book.specs.Representation.{is_settled, place_at, stage_in_file}
use Rattle.mw_book.proofs.FiledCalls.{refused, met_fault, settle_broken, settle_made, settle_ahead}
use Rattle.mw_book.proofs.PlacesAhead.{let_go_ahead, rolled_ahead, settles_within}
use Rattle.mw_book.proofs.RepresentedFiles.{failed_as, words_held}
use Rattle.std.proofs.lemmas.Grind.{common_steps}
use Rattle.mw_book.proofs.book.Book.settle.Goals as goal

pub returns-then-self : goal.returns-then-self
returns-then-self g c entries =
    refused g.D.Disk.facts SettleCall c.args.slot entries c.args.waiting.now c.args.self.now c.if-self.true (λ file. refl) (λ is. let e : SettleCall ≡ CancelCall = is in cc)

pub bounds-self-place : goal.bounds-self-place
bounds-self-place g c =
    let old = c.args.self.now in
    settles_within old.held old.table (place_at old c.args.slot) (omega arith) (omega arith) (c.requires.may c.if-self.false)

pub returns-then-self-place : goal.returns-then-self-place
returns-then-self-place g c entries =
    let old = c.args.self.now in
    let place = place_at old c.args.slot in
    let within = settles_within old.held old.table place (omega arith) (omega arith) (c.requires.may c.if-self.false) in
    settle_ahead g.D.Disk.facts old _ c.args.slot entries c.args.waiting.now (slice_set old.table.settled place false) (omega (arith, c.ranges.slot.fits)) c.if-self.false c.if-self-place.true
    (record { is_held = refl; is_words = refl; is_places = refl; is_place_of = refl; is_table = refl; is_failed = refl })
    (let_go_ahead (states_in old.held) old.table place (omega (arith, within)) c.if-self-place.true)

pub settle_all-requires : goal.settle_all-requires
settle_all-requires g c =
    let old = c.args.self.now in
    let file = c.in-Some.file in
    subst (λ words. MayPrepare words (states_of file) c.as_slice.result.now) (sym (words_held g.D.Disk.facts old file c.in-Some.is))
    (subst (λ cs. MayPrepare old.words (states_of file) cs) (sym c.as_slice.ensures.value)
    (subst (λ states. MayPrepare old.words states c.choose.new.self.changes.items) c.states-2.ensures c.choose.ensures.chosen.may))

pub returns-then-is_err : goal.returns-then-is_err
returns-then-is_err g c entries =
    let old = c.args.self.now in
    let file = c.in-Some.file in
    let bad = sym c.is_err.ensures.value ∙ c.if-is_err.true in
    settle_broken g.D.Disk.facts old _ file c.settle_all.new.self c.in-Some.is c.settle_all.ensures.later c.settle_all.ensures.safe c.args.slot (omega (arith, c.ranges.slot.fits))
    (subst (λ held. stage_in_file (states_in held) old.table (place_at old c.args.slot) ≡ Sealed) c.in-Some.is (c.requires.may c.if-self.false c.if-self-place.false)) c.if-self-place.false c.if-self.false entries
    c.args.waiting.now c.choose.new.self.table c.choose.new.self.changes.items
    (subst (λ states. AreAhead old.table c.choose.new.self.table old.places c.choose.new.self.changes.items (first_ready old.words states old.table old.places c.args.slot (free_within states old.table 0 old.places) c.args.waiting.now)) c.states-2.ensures
    c.choose.ensures.ahead)
    (record { is_held = refl; is_words = refl; is_places = refl; is_place_of = refl; is_table = refl; is_failed = refl })
    (subst (λ cs. MetFault g.D.Disk.facts (length cs + roll_calls (states_of file)) file c.settle_all.new.self) c.as_slice.ensures.value
    (met_fault g.D.Disk.facts (length c.as_slice.result.now + roll_calls (states_of file)) file c.settle_all.new.self c.settle_all.result bad (failed_as g.D.Disk.facts old file c.in-Some.is ∙ c.if-self.false) c.settle_all.ensures.ends))

pub returns : goal.returns
returns g c entries =
    let old = c.args.self.now in
    let file = c.in-Some.file in
    let place = place_at old c.args.slot in
    let more = c.settled_with_sealed-settled.result in
    let well = sym c.is_err.ensures.value ∙ c.if-is_err.false in
    let within = settles_within old.held old.table place (omega arith) (omega arith) (c.requires.may c.if-self.false) in
    settle_made g.D.Disk.facts old _ file c.settle_all.new.self c.in-Some.is c.settle_all.ensures.later c.settle_all.ensures.safe c.args.slot (omega (arith, c.ranges.slot.fits))
    (subst (λ held. stage_in_file (states_in held) old.table place ≡ Sealed) c.in-Some.is (c.requires.may c.if-self.false c.if-self-place.false)) c.if-self-place.false c.if-self.false entries
    c.args.waiting.now (slice_set more place false) c.choose.new.self.table c.choose.new.self.changes.items c.choose.new.self.top
    (subst (λ states. AreChosen old.words states old.table old.places 0 c.choose.new.self.table c.choose.new.self.changes.items c.choose.new.self.top) c.states-2.ensures c.choose.ensures.chosen)
    (subst (λ states. AreAhead old.table c.choose.new.self.table old.places c.choose.new.self.changes.items (first_ready old.words states old.table old.places c.args.slot (free_within states old.table 0 old.places) c.args.waiting.now)) c.states-2.ensures
    c.choose.ensures.ahead)
    (record { is_held = refl; is_words = refl; is_places = refl; is_place_of = refl; is_table = refl; is_failed = refl })
    (rolled_ahead (states_of file) old.table more place (omega (arith, within)) c.if-self-place.false
    (λ k. c.settled_with_sealed-settled.ensures k ∙ ap (λ states. is_settled old.table k || is_sealed_stage (stage_in_file states old.table k)) c.states.ensures))
    (subst (λ cs. AreSettledWith (states_of file) (states_of c.settle_all.new.self) cs) c.as_slice.ensures.value (went_well c.settle_all.result _ well c.settle_all.ensures.freed))
    (subst (λ cs. WentWell g.D.Disk.facts (length cs + roll_calls (states_of file)) file c.settle_all.new.self) c.as_slice.ensures.value
    (ended_well g.D.Disk.facts (length c.as_slice.result.now + roll_calls (states_of file)) file c.settle_all.new.self c.settle_all.result well c.settle_all.ensures.ends))

pub bounds-self-place-then-self-place : goal.bounds-self-place-then-self-place
bounds-self-place-then-self-place c = grind (arith, common_steps)

pub choose-requires-clause-permuted : goal.choose-requires-clause-permuted
choose-requires-clause-permuted c = grind (arith, common_steps)

pub bounds-settled-place : goal.bounds-settled-place
bounds-settled-place c = grind (arith, common_steps)
