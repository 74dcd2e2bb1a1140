-- The two definitions of agreement between a book and a file token, mw_core's and this crate's, hold of the same pairs.
-- Used by: mw_law_threads.
use Rattle.std.specs.Prelude.{◌≡◌, ◌⊎◌, ℕ, List, [], ◌∷◌, drop, length, Option, Some, None, IsTrue}
use Rattle.std.specs.Coded.{Coded-set, coded_option, coded_list, coded_ℕ}
use Rattle.std.proofs.Common.{refl, ap, subst, ◌∙◌, inl, inr}
use Rattle.std.proofs.Math.Logic.{∥∥₁_elim}
use Rattle.std.proofs.lemmas.Bool.{cases_eq}
use Rattle.mw_disk.specs.Facts.{Facts}
use Rattle.mw_record.specs.Layout.{pairs_of}
use Rattle.mw_record.specs.Records.{Pairs, put_pairs}
use Rattle.mw_record.specs.Damages.{file_words, places_of}
use Rattle.mw_file.specs.declared.place_states.Stage.{Stage}
use Rattle.mw_file.specs.declared.place_states.Stage.TheVariants.{Free, Prepared, Sealed}
use Rattle.mw_file.specs.declared.tenant_file.TenantFile.{TenantFile}
use Rattle.mw_file.specs.File.{at_of, disk_of, words_of, states_of}
use Rattle.mw_file.specs.RecoveryInvariant.{IsBeforeOrAfter, IsFile, RecoversTo}
use Rattle.mw_file.specs.PlaceStates.{stage_of, writes_of_place}
use Rattle.mw_file.specs.Stores.{PlacedAs}
use Rattle.mw_book.specs.declared.book.Book.{Book}
use Rattle.mw_book.specs.OpenFile.{FileRecoversTo}
use Rattle.mw_core.specs.FromTable.{FileToken, file_told}
use Rattle.mw_core.specs.Books.{Agrees}
use Rattle.mw_engine.specs.GuardedFile.{AgreesOnce, IsStoredAs, RecoversToOnce}

same_or_not : (xs ys : List ℕ) → (xs ≡ ys) ⊎ (xs ≡ ys → ⊥)
same_or_not [] [] = inl refl
same_or_not [] (y ∷ ys) = inr (λ is. cc)
same_or_not (x ∷ xs) [] = inr (λ is. cc)
same_or_not (x ∷ xs) (y ∷ ys) = elim (cases_eq x y) [
  | inl first ↦ elim (same_or_not xs ys) [ inl rest ↦ inl (λ i. first i ∷ rest i) | inr apart ↦ inr (λ is. apart (let e : xs ≡ ys = cc in e)) ]
  | inr apart ↦ inr (λ is. apart (let e : x ≡ y = cc in e))
]

-- whether bytes are a file of these words is decidable
is_file_or_not : (places : ℕ) (contents image : List ℕ) → IsFile places contents image ⊎ (IsFile places contents image → ⊥)
is_file_or_not places contents image = by (file_words image) refl (cases_eq (places_of image) places)
  where
    by : (found : Option (List ℕ)) → file_words image ≡ found → (places_of image ≡ places) ⊎ (places_of image ≡ places → ⊥) → IsFile places contents image ⊎ (IsFile places contents image → ⊥)
    by None is same = inr (λ file. let words = file.words_are in cc)
    by (Some words) is (inr apart) = inr (λ file. apart file.places_are)
    by (Some words) is (inl same) = elim (same_or_not words contents) [
      | inl equal ↦ inl (record { words_are = is ∙ ap Some equal; places_are = same })
      | inr apart ↦ inr (λ file. let told = file.words_are in apart (let e : words ≡ contents = cc in e))
    ]

-- so it is decidable which of two files they are
either_of : (places : ℕ) (contents : List ℕ) (doubt : Pairs) (image : List ℕ) → ∥ IsBeforeOrAfter places contents doubt image ∥₁ → IsBeforeOrAfter places contents doubt image
either_of places contents doubt image some = elim (is_file_or_not places contents image) [
  | inl file ↦ inl file
  | inr other ↦ inr (record {
    words_are = ∥∥₁_elim some (Coded-set (coded_option (coded_list coded_ℕ)) _ _) (λ either. (only other either).words_are);
    places_are = ∥∥₁_elim some (Coded-set coded_ℕ _ _) (λ either. (only other either).places_are);
  })
]
  where
    only : (IsFile places contents image → ⊥) → IsBeforeOrAfter places contents doubt image → IsFile places (put_pairs doubt contents) image
    only other (inl file) = absurd (other file)
    only other (inr file) = file

stored_once : (part : List ℕ) (words place : ℕ) (stage : Stage) (writes : Pairs) → PlacedAs part words place stage writes → IsStoredAs part words place stage writes
stored_once part words place Free writes placed = record { free = λ is. placed; prepared = λ is. absurd (cc); sealed = λ is. absurd (cc) }
stored_once part words place Prepared writes placed = record { free = λ is. absurd (cc); prepared = λ is. placed; sealed = λ is. absurd (cc) }
stored_once part words place Sealed writes placed = record { free = λ is. absurd (cc); prepared = λ is. absurd (cc); sealed = λ is. placed }

stored_of : (part : List ℕ) (words place : ℕ) (stage : Stage) (writes : Pairs) → IsStoredAs part words place stage writes → PlacedAs part words place stage writes
stored_of part words place Free writes once = once.free refl
stored_of part words place Prepared writes once = once.prepared refl
stored_of part words place Sealed writes once = once.sealed refl

module _ {D : Type 0} (facts : D → Facts) where
  stands_once : (file : TenantFile D) (contents : List ℕ) (doubt : Pairs) → RecoversTo facts file contents doubt → RecoversToOnce facts file contents doubt
  stands_once file contents doubt keeps = record {
    count = keeps.count;
    read = keeps.read;
    certain = keeps.certain;
    left = λ image may. ∣ keeps.left image may ∣₁;
    rest = λ sound. (keeps.inside sound).rest;
    has = λ sound. (keeps.inside sound).stores.has;
    placed = λ sound place low.
        stored_once (drop (at_of file) (facts (disk_of file)).reads) (words_of file) place (stage_of (states_of file) place) (writes_of_place (states_of file) place) ((keeps.inside sound).stores.placed place low);
  }

  stands_of : (file : TenantFile D) (contents : List ℕ) (doubt : Pairs) → RecoversToOnce facts file contents doubt → RecoversTo facts file contents doubt
  stands_of file contents doubt once = record {
    count = once.count;
    read = once.read;
    certain = once.certain;
    left = λ image may. either_of (length (states_of file)) contents doubt image (once.left image may);
    inside = λ sound. record {
      rest = once.rest sound;
      stores = record {
        has = once.has sound;
        placed = λ place low.
            stored_of (drop (at_of file) (facts (disk_of file)).reads) (words_of file) place (stage_of (states_of file) place) (writes_of_place (states_of file) place) (once.placed sound place low);
      };
    };
  }

  for_once : (held : Option (TenantFile D)) (contents : List ℕ) (doubt : Pairs) → FileRecoversTo facts held contents doubt → (file : TenantFile D) → held ≡ Some file → IsTrue (facts (disk_of file)).honest
      → RecoversToOnce facts file contents doubt
  for_once None contents doubt stands file is = absurd (cc)
  for_once (Some one) contents doubt stands file is =
      let same : one ≡ file = cc in
      subst (λ (f : TenantFile D). IsTrue (facts (disk_of f)).honest → RecoversToOnce facts f contents doubt) same (λ honest. stands_once one contents doubt (stands honest))

  for_of : (held : Option (TenantFile D)) (contents : List ℕ) (doubt : Pairs) → ((file : TenantFile D) → held ≡ Some file → IsTrue (facts (disk_of file)).honest → RecoversToOnce facts file contents doubt)
      → FileRecoversTo facts held contents doubt
  for_of None contents doubt once = tt
  for_of (Some one) contents doubt once = λ honest. stands_of one contents doubt (once one refl honest)

  pub agrees_once : (book : Book D) (file_passes : FileToken) (places slots : ℕ) → Agrees facts book file_passes places slots → AgreesOnce facts book file_passes places slots
  agrees_once book file_passes places slots agrees = record {
    same_words = agrees.shows.same_words;
    same_places = agrees.shows.same_places;
    same_place_of = agrees.shows.same_place_of;
    same_failed = agrees.shows.same_failed;
    stands = for_once book.held (file_told file_passes).contents (pairs_of (file_told file_passes).doubt) agrees.shows.stands;
    as_many = agrees.as_many;
    long = agrees.long;
    of_slots = agrees.of_slots;
  }

  pub agrees_of : (book : Book D) (file_passes : FileToken) (places slots : ℕ) → AgreesOnce facts book file_passes places slots → Agrees facts book file_passes places slots
  agrees_of book file_passes places slots once = record {
    shows = record {
      same_words = once.same_words;
      same_places = once.same_places;
      same_place_of = once.same_place_of;
      same_failed = once.same_failed;
      stands = for_of book.held (file_told file_passes).contents (pairs_of (file_told file_passes).doubt) once.stands;
    };
    as_many = once.as_many;
    long = once.long;
    of_slots = once.of_slots;
  }
