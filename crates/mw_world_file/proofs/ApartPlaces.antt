-- If a book (a simulated file) finds that a prepared change shares no word with a sealed (committed) one, the file may seal
-- that change. Used by: SealedFiles.
use Rattle.std.proofs.Common.{◌≡◌, ℕ, zero, suc, ◌<◌, ◌==◌, ◌&&◌, ◌||◌, not, Bool, true, false, List, [], ◌∷◌, length, Some, slice_get, refl, sym, ap, ◌∙◌, inl, inr, arith}
use Rattle.std.specs.List.{list_all, list_any}
use Rattle.std.proofs.lemmas.Bool.{cases_Bool, cases_eq, and_parts, and_from, and_left, and_right, or_cases, eqb-true}
use Rattle.std.proofs.lemmas.Option.{slice_get_cases, slice_get_within}
use Rattle.mw_words.specs.declared.jobs.Entry.{Entry}
use Rattle.mw_record.specs.Records.{holds}
use Rattle.mw_record.specs.Layout.{pairs_of}
use Rattle.mw_file.specs.declared.place_states.PlaceState.{PlaceState}
use Rattle.mw_file.specs.declared.place_states.Stage.TheVariants.{Free as FreeStage, Prepared as PreparedStage, Sealed as SealedStage}
use Rattle.mw_file.specs.PlaceStates.{writes_of_place, MaySeal}
use Rattle.mw_world_file.specs.declared.places.Place.{Place as KeptPlace}
use Rattle.mw_world.specs.Files.State.{File, Place, Empty, Prepared, Sealed, is_empty, is_sealed, entries_in, entries_at, share_a_word, is_apart}
use Rattle.mw_world.specs.Files.Stages.{stage_told}
use Rattle.mw_world_file.specs.Devices.{told, told_at, place_in, is_clear, AreKept}

-- a test that all elements pass, at one of them
all_at : {X : Type 0} (test : X → Bool) (xs : List X) (k : ℕ) (x : X) → list_all test xs ≡ true → slice_get xs k ≡ Some x → test x ≡ true
all_at test [] k x all at = absurd (cc)
all_at test (y ∷ xs) zero x all at = let same : y ≡ x = cc in ap test (sym same) ∙ (and_parts (test y) (list_all test xs) all).0
all_at test (y ∷ xs) (suc k) x all at = all_at test xs k x (and_parts (test y) (list_all test xs) all).1 at

-- an element that doesn't pass, if not all do
record Misses {X : Type 0} (test : X → Bool) (xs : List X) : Type 0 where
  pub index : ℕ
  pub item : X
  pub at : slice_get xs index ≡ Some item
  pub fails : test item ≡ false

not_all : {X : Type 0} (test : X → Bool) (xs : List X) → list_all test xs ≡ false → Misses test xs
not_all test [] not = absurd (cc)
not_all test (x ∷ xs) not = elim (cases_Bool (test x)) [
  | inl passes ↦
      let rest : Misses test xs = not_all test xs (sym (ap (λ b. b && list_all test xs) passes) ∙ not) in
      record { index = suc rest.index; item = rest.item; at = rest.at; fails = rest.fails }
  | inr fails ↦ record { index = 0; item = x; at = refl; fails = fails }
]

-- the book's test of one place
clear_as : (entries : List Entry) (place : Place) → is_clear entries place ≡ not (is_sealed place && share_a_word entries (entries_in place))
clear_as entries Empty = refl
clear_as entries (Prepared others) = refl
clear_as entries (Sealed others) = refl

-- the book's test of the first places passes if each is clear, and fails if one isn't
apart_from : (file : File) (entries : List Entry) (n : ℕ) → ((k : ℕ) → k < n → is_clear entries (file.places k) ≡ true) → is_apart file entries n ≡ true
apart_from file entries zero all = refl
apart_from file entries (suc n) all =
    and_from (is_apart file entries n) (not (is_sealed (file.places n) && share_a_word entries (entries_at file n)))
    (apart_from file entries n (λ k lt. all k (omega (arith, lt)))) (sym (clear_as entries (file.places n)) ∙ all n (omega arith))

apart_fails : (file : File) (entries : List Entry) (n k : ℕ) → k < n → is_clear entries (file.places k) ≡ false → is_apart file entries n ≡ false
apart_fails file entries zero k lt fails = absurd (let e : ⊥ = omega (arith, lt) in e)
apart_fails file entries (suc n) k lt fails = elim (cases_eq k n) [
  | inl same ↦ and_right (is_apart file entries n) (not (is_sealed (file.places n) && share_a_word entries (entries_at file n)))
      (sym (clear_as entries (file.places n)) ∙ ap (λ j. is_clear entries (file.places j)) (sym same) ∙ fails)
  | inr other ↦ and_left (is_apart file entries n) (not (is_sealed (file.places n) && share_a_word entries (entries_at file n)))
      (apart_fails file entries n k (omega (arith, lt, other)) fails)
]

module _ (file : File) (places : List KeptPlace) (entries : List Entry) (same : (k : ℕ) → k < length places → file.places k ≡ place_in places k) where
  clear_at : (all : list_all (λ place. is_clear entries (told place)) places ≡ true) (k : ℕ) → k < length places → is_clear entries (file.places k) ≡ true
  clear_at all k lt = elim ((slice_get_cases places k).1) [
    | inl there ↦ ap (is_clear entries) (same k lt ∙ ap told_at there.2) ∙ all_at (λ place. is_clear entries (told place)) places k there.0 all there.2
    | inr past ↦ absurd (let le = past.0 in let e : ⊥ = omega (arith, lt, le) in e)
  ]

  -- the book's test is that of all places
  pub is_apart_as : (result : Bool) → list_all (λ place. is_clear entries (told place)) places ≡ result → is_apart file entries (length places) ≡ result
  is_apart_as true all = apart_from file entries (length places) (clear_at all)
  is_apart_as false not =
      let miss = not_all (λ place. is_clear entries (told place)) places not in
      let lt : miss.index < length places = slice_get_within places miss.index miss.item miss.at in
      apart_fails file entries (length places) miss.index lt (ap (is_clear entries) (same miss.index lt ∙ ap told_at miss.at) ∙ miss.fails)

-- a change has an address if, and only if, an entry has it
holds_word : (entries : List Entry) (a : ℕ) → holds (pairs_of entries) a ≡ list_any (λ other. other.addr == a) entries
holds_word [] a = refl
holds_word (e ∷ entries) a = ap (λ b. (e.addr == a) || b) (holds_word entries a)

-- changes that share no word have no address in common
no_common : (these those : List Entry) (a : ℕ) → share_a_word these those ≡ false → holds (pairs_of these) a ≡ true → holds (pairs_of those) a ≡ false
no_common [] those a none held = absurd (cc)
no_common (e ∷ these) those a none held = elim (or_cases (e.addr == a) (holds (pairs_of these) a) held) [
  | inl here ↦
      let is : e.addr ≡ a = eqb-true e.addr a here in
      holds_word those a ∙ ap (λ b. list_any (λ other. other.addr == b) those) (sym is) ∙ left_false (list_any (λ other. other.addr == e.addr) those) (share_a_word these those) none
  | inr there ↦ no_common these those a (right_false (list_any (λ other. other.addr == e.addr) those) (share_a_word these those) none) there
] where
  left_false : (a b : Bool) → (a || b) ≡ false → a ≡ false
  left_false false b is = refl
  left_false true b is = absurd (cc)

  right_false : (a b : Bool) → (a || b) ≡ false → b ≡ false
  right_false false b is = is
  right_false true b is = absurd (cc)

-- a place at the sealed stage has a sealed change
sealed_told : (place : Place) → stage_told place ≡ SealedStage → place ≡ Sealed (entries_in place)
sealed_told Empty is = absurd (let e : FreeStage ≡ SealedStage = is in cc)
sealed_told (Prepared entries) is = absurd (let e : PreparedStage ≡ SealedStage = is in cc)
sealed_told (Sealed entries) is = refl

share_none : (entries others : List Entry) → is_clear entries (Sealed others) ≡ true → share_a_word entries others ≡ false
share_none entries others clear = by (share_a_word entries others) refl where
  by : (b : Bool) → share_a_word entries others ≡ b → b ≡ false
  by false is = refl
  by true is = absurd (let e : false ≡ true = sym (ap not is) ∙ clear in cc)

-- the change of the place may be sealed
pub may_seal : (states : List PlaceState) (places : List KeptPlace) (number : ℕ) (entries : List Entry) → AreKept states places → place_in places number ≡ Prepared entries
    → list_all (λ place. is_clear entries (told place)) places ≡ true → MaySeal states number
may_seal states places number entries kept here all = record {
  prepared = kept.stages number ∙ ap stage_told here;
  apart = λ other a sealed held.
      let is : place_in places other ≡ Sealed (entries_in (place_in places other)) = sealed_told (place_in places other) (sym (kept.stages other) ∙ sealed) in
      let clear : is_clear entries (place_in places other) ≡ true = clear_in other in
      let none : share_a_word entries (entries_in (place_in places other)) ≡ false = share_none entries (entries_in (place_in places other)) (sym (ap (is_clear entries) is) ∙ clear) in
      let mine : writes_of_place states number ≡ pairs_of entries = kept.writes number (ap is_empty here) ∙ ap (λ q. pairs_of (entries_in q)) here in
      let its : writes_of_place states other ≡ pairs_of (entries_in (place_in places other)) = kept.writes other (ap is_empty is) in
      ap (λ ps. holds ps a) its ∙ no_common entries (entries_in (place_in places other)) a none (sym (ap (λ ps. holds ps a) mine) ∙ held);
} where
  clear_in : (k : ℕ) → is_clear entries (place_in places k) ≡ true
  clear_in k = elim ((slice_get_cases places k).1) [
    | inl there ↦ ap (λ q. is_clear entries (told_at q)) there.2 ∙ all_at (λ place. is_clear entries (told place)) places k there.0 all there.2
    | inr past ↦ ap (λ q. is_clear entries (told_at q)) past.1
  ]
