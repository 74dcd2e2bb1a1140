-- If a file of the world (`File` of mw_world) lets a prepared change be sealed, so does the open file of a book that
-- represents it. Used by: AloneChanges, PermittedCalls.
use Rattle.std.proofs.Common.{◌≡◌, ℕ, zero, suc, ◌<◌, ◌==◌, ◌&&◌, ◌||◌, not, Bool, true, false, List, [], ◌∷◌, refl, sym, ap, ◌∙◌, inl, inr, arith}
use Rattle.std.specs.List.{list_any}
use Rattle.std.proofs.lemmas.Bool.{cases_eq, cases_lt, and_parts, or_cases, eqb-true}
use Rattle.mw_words.specs.declared.jobs.Entry.{Entry}
use Rattle.mw_record.specs.Records.{holds}
use Rattle.mw_record.specs.Layout.{pairs_of}
use Rattle.mw_file.specs.declared.place_states.PlaceState.{PlaceState}
use Rattle.mw_file.specs.declared.place_states.Stage.TheVariants.{Free as FreeStage, Prepared as PreparedStage, Sealed as SealedStage}
use Rattle.mw_file.specs.PlaceStates.{stage_of, writes_of_place}
use Rattle.mw_world.specs.Files.Stages.{stage_told}
use Rattle.mw_world.specs.Files.State.{File, Place, Empty, Prepared, Sealed, is_empty, is_prepared, is_sealed, entries_in, entries_at, share_a_word, is_apart}
use Rattle.mw_book.specs.declared.place_table.PlaceTable.{PlaceTable}
use Rattle.mw_book.specs.FilePlaces.{IsPermutation}
use Rattle.mw_book.specs.Permits.{MaySealOwn}
use Rattle.mw_book.specs.Representation.{ArePlaced, is_prepared_ahead, is_settled, stage_in_file}
use Rattle.mw_book.proofs.FilePlaces.{IsAt, used_at}
use Rattle.mw_book.proofs.PlacesAhead.{held_plain, own_busy, plain_open, told_sealed}

-- what the test says of all places it says of each
apart_at : (file : File) (entries : List Entry) (n k : ℕ) → is_apart file entries n ≡ true → k < n → not (is_sealed (file.places k) && share_a_word entries (entries_at file k)) ≡ true
apart_at file entries zero k all lt = absurd (let e : ⊥ = omega (arith, lt) in e)
apart_at file entries (suc n) k all lt =
    let both = and_parts (is_apart file entries n) (not (is_sealed (file.places n) && share_a_word entries (entries_at file n))) all in
    elim (cases_eq k n) [
      | inl same ↦ ap (λ j. not (is_sealed (file.places j) && share_a_word entries (entries_at file j))) same ∙ both.1
      | inr other ↦ apart_at file entries n k both.0 (omega (arith, lt, other))
    ]

-- the change has an address among its entries
holds_word : (entries : List Entry) (a : ℕ) → holds (pairs_of entries) a ≡ list_any (λ other. other.addr == a) entries
holds_word [] a = refl
holds_word (e ∷ entries) a = ap (λ b. (e.addr == a) || b) (holds_word entries a)

neither : (a b : Bool) → (a || b) ≡ false → (a ≡ false) × (b ≡ false)
neither false b is = (refl, is)
neither true b is = absurd (cc)

-- changes that share no word have no address in common
none_common : (these those : List Entry) (a : ℕ) → share_a_word these those ≡ false → holds (pairs_of these) a ≡ true → holds (pairs_of those) a ≡ false
none_common [] those a none held = absurd (cc)
none_common (e ∷ these) those a none held =
    let apart = neither (list_any (λ other. other.addr == e.addr) those) (share_a_word these those) none in
    elim (or_cases (e.addr == a) (holds (pairs_of these) a) held) [
      | inl here ↦
          let is : e.addr ≡ a = eqb-true e.addr a here in
          holds_word those a ∙ ap (λ b. list_any (λ other. other.addr == b) those) (sym is) ∙ apart.0
      | inr there ↦ none_common these those a apart.1 there
    ]

none_shared : (p : Place) (entries : List Entry) → stage_told p ≡ SealedStage → not (is_sealed p && share_a_word entries (entries_in p)) ≡ true → share_a_word entries (entries_in p) ≡ false
none_shared Empty entries is test = absurd (let e : FreeStage ≡ SealedStage = is in cc)
none_shared (Prepared others) entries is test = absurd (let e : PreparedStage ≡ SealedStage = is in cc)
none_shared (Sealed others) entries is test = by (share_a_word entries others) refl where
  by : (b : Bool) → share_a_word entries others ≡ b → b ≡ false
  by false same = refl
  by true same = absurd (let e : false ≡ true = sym (ap not same) ∙ test in cc)

busy_sealed : (p : Place) → stage_told p ≡ SealedStage → is_empty p ≡ false
busy_sealed Empty is = absurd (let e : FreeStage ≡ SealedStage = is in cc)
busy_sealed (Prepared entries) is = refl
busy_sealed (Sealed entries) is = refl

busy_prepared : (p : Place) → is_prepared p ≡ true → is_empty p ≡ false
busy_prepared Empty is = absurd (let e : false ≡ true = is in cc)
busy_prepared (Prepared entries) is = refl
busy_prepared (Sealed entries) is = refl

-- the stage of a prepared place, and of a sealed one
pub prepared_stage : (p : Place) → is_prepared p ≡ true → stage_told p ≡ PreparedStage
prepared_stage Empty is = absurd (let e : false ≡ true = is in cc)
prepared_stage (Prepared entries) is = refl
prepared_stage (Sealed entries) is = absurd (let e : false ≡ true = is in cc)

pub sealed_stage : (p : Place) → is_sealed p ≡ true → stage_told p ≡ SealedStage
sealed_stage Empty is = absurd (let e : false ≡ true = is in cc)
sealed_stage (Prepared entries) is = absurd (let e : false ≡ true = is in cc)
sealed_stage (Sealed entries) is = refl

open_prepared : (p : Place) → is_prepared p ≡ true → is_sealed p ≡ false
open_prepared Empty is = refl
open_prepared (Prepared entries) is = refl
open_prepared (Sealed entries) is = absurd (let e : false ≡ true = is in cc)

-- a prepared place is prepared in the file, by its own slot
pub prepared_own : (states : List PlaceState) (table : PlaceTable) (places : ℕ) (file : File) (place : ℕ) → ArePlaced states table places file.places → place < places
    → is_prepared (file.places place) ≡ true → is_prepared_ahead table place ≡ false
prepared_own states table places file place placed within prepared = own_busy states table places file.places placed place within (busy_prepared (file.places place) prepared)

pub prepared_held : (states : List PlaceState) (table : PlaceTable) (places : ℕ) (file : File) (place : ℕ) → ArePlaced states table places file.places → place < places
    → is_prepared (file.places place) ≡ true → stage_in_file states table place ≡ PreparedStage
prepared_held states table places file place placed within prepared =
    placed.stages place within
    ∙ held_plain (is_settled table place) (is_prepared_ahead table place) (file.places place) (plain_open states table places file.places placed place within (open_prepared (file.places place) prepared))
    (prepared_own states table places file place placed within prepared)
    ∙ prepared_stage (file.places place) prepared

-- if no sealed place shares a word with a prepared change, the change may be sealed
pub may_seal : (states : List PlaceState) (table : PlaceTable) (places : ℕ) (file : File) (place : ℕ) → ArePlaced states table places file.places → IsPermutation table.file_place places → place < places
    → is_prepared (file.places place) ≡ true → is_apart file (entries_at file place) places ≡ true → MaySealOwn states table place
may_seal states table places file place placed permuted within prepared all = record {
  own = prepared_own states table places file place placed within prepared;
  sealable = record {
    prepared = prepared_held states table places file place placed within prepared;
    apart = λ number a sealed held. elim (cases_lt number places) [
      | inl lt ↦
          let there : IsAt table.file_place places number = used_at table.file_place places number (permuted.onto number lt) in
          let sealed_there : stage_in_file states table there.place ≡ SealedStage = ap (stage_of states) there.at ∙ sealed in
          let told : stage_told (file.places there.place) ≡ SealedStage =
          told_sealed (is_settled table there.place) (is_prepared_ahead table there.place) (file.places there.place) (sym (placed.stages there.place there.low) ∙ sealed_there) in
          let none = none_shared (file.places there.place) (entries_at file place) told (apart_at file (entries_at file place) places there.place all there.low) in
          let mine = placed.writes place within (busy_prepared (file.places place) prepared) in
          let its = placed.writes there.place there.low (busy_sealed (file.places there.place) told) in
          ap (λ j. holds (writes_of_place states j) a) (sym there.at) ∙ ap (λ ps. holds ps a) its
          ∙ none_common (entries_at file place) (entries_at file there.place) a none (sym (ap (λ ps. holds ps a) mine) ∙ held)
      | inr past ↦ absurd (let e : FreeStage ≡ SealedStage = sym (placed.further number past) ∙ sealed in cc)
    ];
  };
}
