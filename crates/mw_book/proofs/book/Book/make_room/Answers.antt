-- Goals of `Book::make_room` (src/book.rt).
use Rattle.std.proofs.Common.{◌≡◌, ◌<◌, true, refl, sym, ap, subst, ◌∙◌, arith}
use Rattle.mw_file.specs.declared.place_states.Stage.TheVariants.{Free}
use Rattle.mw_file.specs.File.{disk_of, states_of}
use Rattle.mw_file.specs.PlaceStates.{stage_of, writes_of_place, IsStaged}
use Rattle.mw_book.specs.declared.place_table.PlaceTable.{PlaceTable}
use Rattle.mw_book.specs.FilePlaces.{IsPermutation}
use Rattle.mw_book.specs.OpenFile.{states_in}
use Rattle.mw_book.specs.Permits.{HasPlace, is_vacant, vacant_place}
use Rattle.mw_book.specs.RecordsAhead.{is_free}
use Rattle.mw_book.specs.Representation.{is_prepared_ahead, place_in_file}
use Rattle.mw_book.proofs.FoundPlaces.{vacant_prepared, vacant_so}
use Rattle.mw_book.proofs.GivenUp.{given_room, represents_same, still_lowest, still_room}
use Rattle.mw_book.proofs.MovedRecords.{moved_lowest, moved_room, moved_same, room_there}
use Rattle.mw_book.proofs.RecordsAhead.{some_vacant}
use Rattle.mw_book.proofs.RepresentedFiles.{there_held}
use Rattle.mw_book.proofs.TakenPlaces.{taken_permutes}
use Rattle.std.proofs.lemmas.Grind.{common_steps}
use Rattle.mw_book.proofs.book.Book.make_room.Goals as goal

pub cancel-requires : goal.cancel-requires
cancel-requires g c =
    let old = c.args.self.now in
    let file = c.in-Some.file in
    let at = c.vacant_place-place.ensures ∙ ap (λ states. vacant_place states old.table old.places) c.states.ensures in
    ap (stage_of (states_of file)) (c.file_place.ensures ∙ ap (place_in_file old.table) at)
    ∙ vacant_prepared (states_of file) old.table old.places (subst (λ held. HasPlace (states_in held) old.table old.places) c.in-Some.is c.requires.room)
    (sym (ap (is_prepared_ahead old.table) at) ∙ sym c.is_prepared_ahead.ensures ∙ c.if-not-is_prepared_ahead.false)

pub returns-clause-lowest : goal.returns-clause-lowest
returns-clause-lowest g c =
    let old = c.args.self.now in
    let file = c.in-Some.file in
    still_lowest g.D.Disk.facts old file c.cancel.new.self c.in-Some.is c.vacant_place-place.result (writes_of_place (states_of file) c.file_place.result)
    (c.vacant_place-place.ensures ∙ ap (λ states. vacant_place states old.table old.places) c.states.ensures)
    (subst (λ held. HasPlace (states_in held) old.table old.places) c.in-Some.is c.requires.room) (omega arith) (sym c.is_prepared_ahead.ensures ∙ c.if-not-is_prepared_ahead.false)
    (subst (λ n. IsStaged (states_of file) (states_of c.cancel.new.self) n Free (writes_of_place (states_of file) c.file_place.result)) c.file_place.ensures c.cancel.ensures.staged)

pub returns-clause-room : goal.returns-clause-room
returns-clause-room g c =
    let old = c.args.self.now in
    let file = c.in-Some.file in
    still_room g.D.Disk.facts old file c.cancel.new.self c.in-Some.is c.vacant_place-place.result (writes_of_place (states_of file) c.file_place.result)
    (c.vacant_place-place.ensures ∙ ap (λ states. vacant_place states old.table old.places) c.states.ensures)
    (subst (λ held. HasPlace (states_in held) old.table old.places) c.in-Some.is c.requires.room) (omega arith) (sym c.is_prepared_ahead.ensures ∙ c.if-not-is_prepared_ahead.false)
    (subst (λ n. IsStaged (states_of file) (states_of c.cancel.new.self) n Free (writes_of_place (states_of file) c.file_place.result)) c.file_place.ensures c.cancel.ensures.staged)

pub returns-clause-same : goal.returns-clause-same
returns-clause-same g c =
    let old = c.args.self.now in
    let file = c.in-Some.file in
    represents_same g.D.Disk.facts old file c.cancel.new.self c.in-Some.is c.vacant_place-place.result (writes_of_place (states_of file) c.file_place.result)
    (c.vacant_place-place.ensures ∙ ap (λ states. vacant_place states old.table old.places) c.states.ensures)
    (subst (λ held. HasPlace (states_in held) old.table old.places) c.in-Some.is c.requires.room) (omega arith) (sym c.is_prepared_ahead.ensures ∙ c.if-not-is_prepared_ahead.false)
    (subst (λ n. IsStaged (states_of file) (states_of c.cancel.new.self) n Free (writes_of_place (states_of file) c.file_place.result)) c.file_place.ensures c.cancel.ensures.staged) _
    (record { is_held = refl; is_words = refl; is_places = refl; is_place_of = refl; is_table = refl; is_failed = refl }) (ap disk_of c.cancel.ensures.rest) c.cancel.ensures.safe

pub returns-clause-made : goal.returns-clause-made
returns-clause-made g c =
    let old = c.args.self.now in
    let file = c.in-Some.file in
    given_room g.D.Disk.facts old file c.cancel.new.self c.in-Some.is c.vacant_place-place.result (writes_of_place (states_of file) c.file_place.result)
    (c.vacant_place-place.ensures ∙ ap (λ states. vacant_place states old.table old.places) c.states.ensures)
    (subst (λ held. HasPlace (states_in held) old.table old.places) c.in-Some.is c.requires.room) (omega arith) (sym c.is_prepared_ahead.ensures ∙ c.if-not-is_prepared_ahead.false)
    (subst (λ n. IsStaged (states_of file) (states_of c.cancel.new.self) n Free (writes_of_place (states_of file) c.file_place.result)) c.file_place.ensures c.cancel.ensures.staged)
    (λ k le lt. ap (λ states. is_free states old.table k) (sym c.states-2.ensures) ∙ c.in_default-highest_free.ensures.none refl k le lt) _
    (record { is_held = refl; is_words = refl; is_places = refl; is_place_of = refl; is_table = refl; is_failed = refl })

pub returns-then-not-is_prepared_ahead-clause-made : goal.returns-then-not-is_prepared_ahead-clause-made
returns-then-not-is_prepared_ahead-clause-made g c =
    let old = c.args.self.now in
    let at =
    c.vacant_place-place.ensures ∙ ap (λ states. vacant_place states old.table old.places) c.states.ensures ∙ sym (ap (λ held. vacant_place (states_in held) old.table old.places) c.in-Some.is) in
    room_there old _ (record { is_held = sym c.in-Some.is; is_words = refl; is_places = refl; is_place_of = refl; is_table = refl; is_failed = refl })
    (some_vacant (states_in old.held) old.table old.places c.vacant_place-place.result at c.requires.room (sym c.is_prepared_ahead.ensures ∙ c.if-not-is_prepared_ahead.true))

pub invariant_of-self-in-Some-highest_free-clause-permuted : goal.invariant_of-self-in-Some-highest_free-clause-permuted
invariant_of-self-in-Some-highest_free-clause-permuted g c =
    let old = c.args.self.now in
    let file = c.in-Some.file in
    let place = c.vacant_place-place.result in
    let free = c.in-Some-highest_free.free in
    let at = c.vacant_place-place.ensures ∙ ap (λ states. vacant_place states old.table old.places) c.states.ensures in
    let room = subst (λ held. HasPlace (states_in held) old.table old.places) c.in-Some.is c.requires.room in
    let used : place < old.places = omega (arith, at, room) in
    let also : free < old.places = c.in-Some-highest_free.ensures.top in
    let most = there_held g.D.Disk.facts old file c.in-Some.is in
    let few = file.few in
    let on = sym c.is_prepared_ahead.ensures ∙ c.if-not-is_prepared_ahead.false in
    let vacant : is_vacant (states_of file) old.table place ≡ true = ap (is_vacant (states_of file) old.table) at ∙ vacant_so (states_of file) old.table old.places room in
    let open_there : is_vacant (states_of file) old.table free ≡ true = ap (λ states. is_vacant states old.table free) (sym c.states-2.ensures) ∙ c.in-Some-highest_free.ensures.vacant in
    subst (λ (table : PlaceTable). IsPermutation table.file_place old.places) (sym c.take.ensures)
    (taken_permutes old.table place free (omega (arith, used, most, few)) (omega (arith, also, most, few)) (omega arith) old.places old.permuted used also)

pub returns-in-Some-highest_free-clause-lowest : goal.returns-in-Some-highest_free-clause-lowest
returns-in-Some-highest_free-clause-lowest g c =
    let old = c.args.self.now in
    let file = c.in-Some.file in
    let place = c.vacant_place-place.result in
    let free = c.in-Some-highest_free.free in
    let at = c.vacant_place-place.ensures ∙ ap (λ states. vacant_place states old.table old.places) c.states.ensures in
    let room = subst (λ held. HasPlace (states_in held) old.table old.places) c.in-Some.is c.requires.room in
    let used : place < old.places = omega (arith, at, room) in
    let also : free < old.places = c.in-Some-highest_free.ensures.top in
    let most = there_held g.D.Disk.facts old file c.in-Some.is in
    let few = file.few in
    let on = sym c.is_prepared_ahead.ensures ∙ c.if-not-is_prepared_ahead.false in
    let vacant : is_vacant (states_of file) old.table place ≡ true = ap (is_vacant (states_of file) old.table) at ∙ vacant_so (states_of file) old.table old.places room in
    let open_there : is_vacant (states_of file) old.table free ≡ true = ap (λ states. is_vacant states old.table free) (sym c.states-2.ensures) ∙ c.in-Some-highest_free.ensures.vacant in
    at ∙ sym (ap (λ table. vacant_place (states_of file) table old.places) c.take.ensures ∙ moved_lowest (states_of file) old.table old.places place free (omega (arith, used, most, few)) (omega (arith, also, most, few)) (omega arith) old.permuted used also on c.in-Some-highest_free.ensures.free vacant open_there)

pub returns-in-Some-highest_free-clause-room : goal.returns-in-Some-highest_free-clause-room
returns-in-Some-highest_free-clause-room g c =
    let old = c.args.self.now in
    let file = c.in-Some.file in
    let place = c.vacant_place-place.result in
    let free = c.in-Some-highest_free.free in
    let at = c.vacant_place-place.ensures ∙ ap (λ states. vacant_place states old.table old.places) c.states.ensures in
    let room = subst (λ held. HasPlace (states_in held) old.table old.places) c.in-Some.is c.requires.room in
    let used : place < old.places = omega (arith, at, room) in
    let also : free < old.places = c.in-Some-highest_free.ensures.top in
    let most = there_held g.D.Disk.facts old file c.in-Some.is in
    let few = file.few in
    let on = sym c.is_prepared_ahead.ensures ∙ c.if-not-is_prepared_ahead.false in
    let vacant : is_vacant (states_of file) old.table place ≡ true = ap (is_vacant (states_of file) old.table) at ∙ vacant_so (states_of file) old.table old.places room in
    let open_there : is_vacant (states_of file) old.table free ≡ true = ap (λ states. is_vacant states old.table free) (sym c.states-2.ensures) ∙ c.in-Some-highest_free.ensures.vacant in
    subst (λ table. HasPlace (states_of file) table old.places) (sym c.take.ensures)
    (let same = moved_lowest (states_of file) old.table old.places place free (omega (arith, used, most, few)) (omega (arith, also, most, few)) (omega arith) old.permuted used also on c.in-Some-highest_free.ensures.free vacant open_there in omega (arith, same, room))

pub returns-in-Some-highest_free-clause-same : goal.returns-in-Some-highest_free-clause-same
returns-in-Some-highest_free-clause-same g c =
    let old = c.args.self.now in
    let file = c.in-Some.file in
    let place = c.vacant_place-place.result in
    let free = c.in-Some-highest_free.free in
    let at = c.vacant_place-place.ensures ∙ ap (λ states. vacant_place states old.table old.places) c.states.ensures in
    let room = subst (λ held. HasPlace (states_in held) old.table old.places) c.in-Some.is c.requires.room in
    let used : place < old.places = omega (arith, at, room) in
    let also : free < old.places = c.in-Some-highest_free.ensures.top in
    let most = there_held g.D.Disk.facts old file c.in-Some.is in
    let few = file.few in
    let on = sym c.is_prepared_ahead.ensures ∙ c.if-not-is_prepared_ahead.false in
    let vacant : is_vacant (states_of file) old.table place ≡ true = ap (is_vacant (states_of file) old.table) at ∙ vacant_so (states_of file) old.table old.places room in
    let open_there : is_vacant (states_of file) old.table free ≡ true = ap (λ states. is_vacant states old.table free) (sym c.states-2.ensures) ∙ c.in-Some-highest_free.ensures.vacant in
    moved_same g.D.Disk.facts old _ place free (omega (arith, used, most, few)) (omega (arith, also, most, few)) (omega arith) used also on c.in-Some-highest_free.ensures.free
    (ap (λ held. is_vacant (states_in held) old.table place) c.in-Some.is ∙ vacant) (ap (λ held. is_vacant (states_in held) old.table free) c.in-Some.is ∙ open_there)
    (record { is_held = sym c.in-Some.is; is_words = refl; is_places = refl; is_place_of = refl; is_table = c.take.ensures; is_failed = refl })

pub returns-in-Some-highest_free-clause-made : goal.returns-in-Some-highest_free-clause-made
returns-in-Some-highest_free-clause-made g c =
    let old = c.args.self.now in
    let file = c.in-Some.file in
    let place = c.vacant_place-place.result in
    let free = c.in-Some-highest_free.free in
    let at = c.vacant_place-place.ensures ∙ ap (λ states. vacant_place states old.table old.places) c.states.ensures in
    let room = subst (λ held. HasPlace (states_in held) old.table old.places) c.in-Some.is c.requires.room in
    let used : place < old.places = omega (arith, at, room) in
    let also : free < old.places = c.in-Some-highest_free.ensures.top in
    let most = there_held g.D.Disk.facts old file c.in-Some.is in
    let few = file.few in
    let on = sym c.is_prepared_ahead.ensures ∙ c.if-not-is_prepared_ahead.false in
    let vacant : is_vacant (states_of file) old.table place ≡ true = ap (is_vacant (states_of file) old.table) at ∙ vacant_so (states_of file) old.table old.places room in
    let open_there : is_vacant (states_of file) old.table free ≡ true = ap (λ states. is_vacant states old.table free) (sym c.states-2.ensures) ∙ c.in-Some-highest_free.ensures.vacant in
    moved_room g.D.Disk.facts old _ place free (omega (arith, used, most, few)) (omega (arith, also, most, few)) (omega arith) used also on c.in-Some-highest_free.ensures.free
    (ap (λ held. is_vacant (states_in held) old.table place) c.in-Some.is ∙ vacant) (ap (λ held. is_vacant (states_in held) old.table free) c.in-Some.is ∙ open_there)
    (record { is_held = sym c.in-Some.is; is_words = refl; is_places = refl; is_place_of = refl; is_table = c.take.ensures; is_failed = refl })

pub returns-then-not-is_prepared_ahead-clause-room : goal.returns-then-not-is_prepared_ahead-clause-room
returns-then-not-is_prepared_ahead-clause-room c = grind (arith, common_steps)

pub invariant_of-self-in-Some-highest_free-clause-same_words : goal.invariant_of-self-in-Some-highest_free-clause-same_words
invariant_of-self-in-Some-highest_free-clause-same_words c = grind (arith, common_steps)

pub returns-then-not-is_prepared_ahead-clause-lowest : goal.returns-then-not-is_prepared_ahead-clause-lowest
returns-then-not-is_prepared_ahead-clause-lowest c = grind (arith, common_steps)

pub returns-then-not-is_prepared_ahead-clause-same : goal.returns-then-not-is_prepared_ahead-clause-same
returns-then-not-is_prepared_ahead-clause-same c = grind (arith, common_steps)

pub bounds-self-place : goal.bounds-self-place
bounds-self-place c = grind (arith, common_steps)

pub take-requires-clause-place : goal.take-requires-clause-place
take-requires-clause-place c = grind (arith, common_steps)
