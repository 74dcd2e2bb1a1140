-- If a call can be made on a file of the world (`File` of mw_world), it may be made on each book that represents the file.
-- Used by: mw_core (`permits` alone), calls_that_can_be_made.
use Rattle.std.proofs.Common.{◌≡◌, ℕ, ◌<◌, ◌&&◌, true, false, List, length, nat_lt, refl, sym, ap, subst, ◌∙◌, arith}
use Rattle.std.proofs.lemmas.Bool.{and_parts, ltb-true}
use Rattle.mw_words.specs.declared.limits.TheConstants.{MAX_POOL}
use Rattle.mw_words.specs.declared.jobs.Entry.{Entry}
use Rattle.mw_words.specs.Change.{is_change}
use Rattle.mw_look.specs.declared.steps.Call.{Call}
use Rattle.mw_look.specs.declared.steps.Call.TheVariants.{Prepare as PrepareCall, Seal as SealCall, Settle as SettleCall, Cancel as CancelCall}
use Rattle.mw_disk.specs.Facts.{Facts}
use Rattle.mw_world.specs.Files.Calls.{fails_on, place_for, can_be_made}
use Rattle.mw_world.specs.Files.State.{File, empty_from, is_prepared, is_sealed, is_apart, entries_at}
use Rattle.mw_book.specs.declared.book.Book.{Book}
use Rattle.mw_book.specs.OpenFile.{states_in}
use Rattle.mw_book.specs.Permits.{MayCall, MayCancel, MaySealOwn, MaySettle, HasRoom, PermitsCalls}
use Rattle.mw_book.specs.Representation.{Represents, is_prepared_ahead, is_settled, place_at}
use Rattle.mw_book.proofs.ApartChanges.{may_seal, prepared_held, prepared_own, sealed_stage}
use Rattle.mw_book.proofs.FoundPlaces.{found_at}
use Rattle.mw_book.proofs.PlacesAhead.{busy_sealed, held_plain, own_busy}

module _ {D : Type 0} (facts : D → Facts) (book : Book D) (file : File) (slot : ℕ) (within : slot < MAX_POOL) (shows : Represents facts book file) where
  -- the file and the book name the same place
  same_place : file.place_of slot ≡ place_at book slot
  same_place = shows.same_place_of slot within

  room : (entries : List Entry) → can_be_made PrepareCall file book.places (empty_from file 0 book.places) entries ≡ true → HasRoom (states_in book.held) book.table book.places book.words entries
  room entries can =
      let both = and_parts (is_change (length file.contents) entries) (nat_lt (empty_from file 0 book.places) book.places) can in
      let at = found_at (states_in book.held) book.table book.places file shows.same_places in
      record {
        room = (let lt = ltb-true (empty_from file 0 book.places) book.places both.1 in omega (arith, at, lt));
        formed = ap (λ n. is_change n entries) (sym shows.same_words) ∙ both.0;
      }

  sealing : (nat_lt (file.place_of slot) book.places && is_prepared (file.places (file.place_of slot)) && is_apart file (entries_at file (file.place_of slot)) book.places) ≡ true
      → MaySealOwn (states_in book.held) book.table (file.place_of slot)
  sealing can =
      let first = and_parts (nat_lt (file.place_of slot) book.places && is_prepared (file.places (file.place_of slot))) (is_apart file (entries_at file (file.place_of slot)) book.places) can in
      let two = and_parts (nat_lt (file.place_of slot) book.places) (is_prepared (file.places (file.place_of slot))) first.0 in
      may_seal (states_in book.held) book.table book.places file (file.place_of slot) shows.same_places book.permuted
      (ltb-true (file.place_of slot) book.places two.0) two.1 first.1

  settling : (nat_lt (file.place_of slot) book.places && is_sealed (file.places (file.place_of slot))) ≡ true → MaySettle (states_in book.held) book.table (file.place_of slot)
  settling can plain =
      let both = and_parts (nat_lt (file.place_of slot) book.places) (is_sealed (file.places (file.place_of slot))) can in
      let low = ltb-true (file.place_of slot) book.places both.0 in
      shows.same_places.stages (file.place_of slot) low
      ∙ held_plain (is_settled book.table (file.place_of slot)) (is_prepared_ahead book.table (file.place_of slot)) (file.places (file.place_of slot)) plain
      (own_busy (states_in book.held) book.table book.places file.places shows.same_places (file.place_of slot) low (busy_sealed (file.places (file.place_of slot)) both.1))
      ∙ sealed_stage (file.places (file.place_of slot)) both.1

  canceling : (nat_lt (file.place_of slot) book.places && is_prepared (file.places (file.place_of slot))) ≡ true → MayCancel (states_in book.held) book.table (file.place_of slot)
  canceling can =
      let both = and_parts (nat_lt (file.place_of slot) book.places) (is_prepared (file.places (file.place_of slot))) can in
      let low = ltb-true (file.place_of slot) book.places both.0 in
      record {
        prepared = prepared_held (states_in book.held) book.table book.places file (file.place_of slot) shows.same_places low both.1;
        own = prepared_own (states_in book.held) book.table book.places file (file.place_of slot) shows.same_places low both.1;
      }

  permitted : (call : Call) (entries : List Entry) → (fails_on call file ≡ false → can_be_made call file book.places (place_for call file book.places slot) entries ≡ true)
      → MayCall book call slot entries
  permitted PrepareCall entries can = λ sound. room entries (can (shows.same_failed ∙ sound))
  permitted SealCall entries can = λ sound. subst (MaySealOwn (states_in book.held) book.table) same_place (sealing (can (shows.same_failed ∙ sound)))
  permitted SettleCall entries can = λ sound. subst (MaySettle (states_in book.held) book.table) same_place (settling (can (shows.same_failed ∙ sound)))
  permitted CancelCall entries can = subst (MayCancel (states_in book.held) book.table) same_place (canceling (can refl))

pub permits : {D : Type 0} (facts : D → Facts) → PermitsCalls facts
permits facts book file call slot entries within shows can = permitted facts book file slot within shows call entries can
