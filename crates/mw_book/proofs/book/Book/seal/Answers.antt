-- Goals of `Book::seal` (src/book.rt).
use Rattle.std.proofs.Common.{◌≡◌, length, refl, sym, subst, ◌∙◌, ◌+◌, arith}
use Rattle.mw_look.specs.declared.steps.Call.TheVariants.{Seal as SealCall, Cancel as CancelCall}
use Rattle.mw_file.specs.declared.place_states.Stage.TheVariants.{Prepared}
use Rattle.mw_file.specs.File.{states_of, Ends}
use Rattle.mw_file.specs.NewChanges.{IsSealedWith, MayPrepare}
use Rattle.mw_file.specs.PlaceStates.{writes_of_place}
use Rattle.mw_file.specs.RecoveryInvariant.{ChangeIsSealed}
use Rattle.mw_file.proofs.Ended.{ended_well, went_well}
use Rattle.mw_book.specs.ChosenPlaces.{AreAhead, AreChosen, free_within}
use Rattle.mw_book.specs.RecordsAhead.{first_ready}
use Rattle.mw_book.specs.OpenFile.{states_in}
use Rattle.mw_book.specs.Representation.{place_at, place_in_file, stage_in_file}
use Rattle.mw_book.proofs.FiledCalls.{refused, busy_in, seal_broken, seal_made}
use Rattle.mw_book.proofs.RepresentedFiles.{words_held}
use Rattle.std.proofs.lemmas.Grind.{common_steps}
use Rattle.mw_book.proofs.book.Book.seal.Goals as goal

pub returns-then-self : goal.returns-then-self
returns-then-self g c entries =
    refused g.D.Disk.facts SealCall c.args.slot entries c.args.waiting.now c.args.self.now c.if-self.true (λ file. refl) (λ is. let e : SealCall ≡ CancelCall = is in cc)

pub seal_with-requires-clause-ahead : goal.seal_with-requires-clause-ahead
seal_with-requires-clause-ahead g c =
    let old = c.args.self.now in
    let file = c.in-Some.file in
    subst (λ words. MayPrepare words (states_of file) c.as_slice.result.now) (sym (words_held g.D.Disk.facts old file c.in-Some.is))
    (subst (λ cs. MayPrepare old.words (states_of file) cs) (sym c.as_slice.ensures.value)
    (subst (λ states. MayPrepare old.words states c.choose.new.self.changes.items) c.states.ensures c.choose.ensures.chosen.may))

pub returns-then-is_err : goal.returns-then-is_err
returns-then-is_err g c entries =
    let old = c.args.self.now in
    let file = c.in-Some.file in
    seal_broken g.D.Disk.facts old _ file c.seal_with.new.self c.in-Some.is c.seal_with.ensures.later c.args.slot (omega (arith, c.ranges.slot.fits))
    (busy_in old file c.args.slot Prepared c.in-Some.is (c.requires.may c.if-self.false).sealable.prepared refl) (c.requires.may c.if-self.false).own c.if-self.false c.seal_with.result
    (subst (λ n. ChangeIsSealed g.D.Disk.facts file c.seal_with.new.self (writes_of_place (states_of file) n) c.seal_with.result) c.file_place-number.ensures c.seal_with.ensures.safe) entries
    c.args.waiting.now c.choose.new.self.table c.choose.new.self.changes.items
    (subst (λ states. AreAhead old.table c.choose.new.self.table old.places c.choose.new.self.changes.items (first_ready old.words states old.table old.places c.args.slot (free_within states old.table 0 old.places) c.args.waiting.now)) c.states.ensures
    c.choose.ensures.ahead)
    (sym c.is_err.ensures.value ∙ c.if-is_err.true)
    (subst (λ cs. Ends g.D.Disk.facts (length cs + 2) file c.seal_with.new.self c.seal_with.result) c.as_slice.ensures.value c.seal_with.ensures.ends)
    (record { is_held = refl; is_words = refl; is_places = refl; is_place_of = refl; is_table = refl; is_failed = refl })

pub returns : goal.returns
returns g c entries =
    let old = c.args.self.now in
    let file = c.in-Some.file in
    let well = sym c.is_err.ensures.value ∙ c.if-is_err.false in
    seal_made g.D.Disk.facts old _ file c.seal_with.new.self c.in-Some.is c.seal_with.ensures.later c.args.slot (omega (arith, c.ranges.slot.fits))
    (busy_in old file c.args.slot Prepared c.in-Some.is (c.requires.may c.if-self.false).sealable.prepared refl) (c.requires.may c.if-self.false).own c.if-self.false c.seal_with.result
    (subst (λ n. ChangeIsSealed g.D.Disk.facts file c.seal_with.new.self (writes_of_place (states_of file) n) c.seal_with.result) c.file_place-number.ensures c.seal_with.ensures.safe) entries
    c.args.waiting.now c.choose.new.self.table c.choose.new.self.changes.items c.choose.new.self.top
    (subst (λ states. AreChosen old.words states old.table old.places 0 c.choose.new.self.table c.choose.new.self.changes.items c.choose.new.self.top) c.states.ensures c.choose.ensures.chosen)
    (subst (λ states. AreAhead old.table c.choose.new.self.table old.places c.choose.new.self.changes.items (first_ready old.words states old.table old.places c.args.slot (free_within states old.table 0 old.places) c.args.waiting.now)) c.states.ensures
    c.choose.ensures.ahead)
    well
    (ended_well g.D.Disk.facts (length c.choose.new.self.changes.items + 2) file c.seal_with.new.self c.seal_with.result well
    (subst (λ cs. Ends g.D.Disk.facts (length cs + 2) file c.seal_with.new.self c.seal_with.result) c.as_slice.ensures.value c.seal_with.ensures.ends))
    (subst (λ held. stage_in_file (states_in held) old.table (place_at old c.args.slot) ≡ Prepared) c.in-Some.is (c.requires.may c.if-self.false).sealable.prepared)
    (subst (λ cs. IsSealedWith (states_of file) (states_of c.seal_with.new.self) (place_in_file old.table (place_at old c.args.slot)) cs) c.as_slice.ensures.value
    (subst (λ n. IsSealedWith (states_of file) (states_of c.seal_with.new.self) n c.as_slice.result.now) c.file_place-number.ensures (went_well c.seal_with.result _ well c.seal_with.ensures.staged)))
    (record { is_held = refl; is_words = refl; is_places = refl; is_place_of = refl; is_table = refl; is_failed = refl })

pub choose-requires-clause-permuted : goal.choose-requires-clause-permuted
choose-requires-clause-permuted c = grind (arith, common_steps)
