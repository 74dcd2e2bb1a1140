-- A simulated file's book keeps the record places of its file when one changes, and both find the same lowest empty one.
-- Used by: WorkedFiles.
use Rattle.std.proofs.Common.{◌≡◌, ◌≢◌, ℕ, suc, ◌+◌, ◌<◌, ◌≤◌, ◌||◌, min, nat_lt, Bool, true, false, List, [], ◌∷◌, length, Option, Some, None, slice_get, slice_set, get_or, if◌then◌else◌, refl, sym, ap, ◌∙◌, inl, inr, arith}
use Rattle.std.specs.List.{list_any}
use Rattle.std.proofs.lemmas.Bool.{cases_Bool, cases_eq, cond-true, cond-false, eq-eqb, ne_eqb, or_left, lt-ltb, le-ltb}
use Rattle.std.proofs.lemmas.Option.{slice_get_cases, slice_get_read, slice_get_past}
use Rattle.std.proofs.lemmas.List.{get_or-set_same, get_or-set_other, length-set}
use Rattle.mw_record.specs.Records.{Pairs}
use Rattle.mw_record.specs.Layout.{pairs_of}
use Rattle.mw_file.specs.declared.place_states.PlaceState.{PlaceState}
use Rattle.mw_file.specs.declared.place_states.Stage.{Stage}
use Rattle.mw_file.specs.PlaceStates.{is_free_stage, is_free, free_from, free_place, stage_of, writes_of_place, IsStaged}
use Rattle.mw_world_file.specs.declared.places.Place.{Place as KeptPlace}
use Rattle.mw_world.specs.Maps.{upd}
use Rattle.mw_world.specs.Files.State.{File, Place, Empty, Prepared, Sealed, is_empty, entries_in, empty_from}
use Rattle.mw_world.specs.Files.Stages.{stage_told}
use Rattle.mw_world_file.specs.Devices.{told, told_at, place_in, AreKept}
use Rattle.mw_world.proofs.MapLaws.{get_written, get_others, upd_here, upd_there}

pub place_written : (places : List KeptPlace) (number : ℕ) (p : KeptPlace) → number < length places → place_in (slice_set places number p) number ≡ told p
place_written places number p within = ap told_at (get_written places number p within)

pub place_others : (places : List KeptPlace) (number k : ℕ) (p : KeptPlace) → k ≢ number → place_in (slice_set places number p) k ≡ place_in places k
place_others places number k p apart = ap told_at (get_others places number k p apart)

-- the places after one of them was written
pub set_told : (at : ℕ → Place) (places : List KeptPlace) (number : ℕ) (p : KeptPlace) (place : Place) → place ≡ told p → number < length places
    → ((k : ℕ) → k < length places → at k ≡ place_in places k)
    → (k : ℕ) → k < length (slice_set places number p) → upd at number place k ≡ place_in (slice_set places number p) k
set_told at places number p place is within same k lt = elim (cases_eq k number) [
  | inl here ↦ upd_here at number k place here ∙ is ∙ sym (ap (place_in (slice_set places number p)) here ∙ place_written places number p within)
  | inr apart ↦ upd_there at number k place apart ∙ same k (let e = length-set places number p in omega (arith, e, lt)) ∙ sym (place_others places number k p apart)
]

-- the places are those of the file after one place of both changed
pub kept_on : (old new : List PlaceState) (places : List KeptPlace) (number : ℕ) (p : KeptPlace) (stage : Stage) (w : Pairs) → number < length places → AreKept old places
    → IsStaged old new number stage w → stage ≡ stage_told (told p) → (is_empty (told p) ≡ false → w ≡ pairs_of (entries_in (told p)))
    → AreKept new (slice_set places number p)
kept_on old new places number p stage w within kept staged is writes = record {
  stages = λ k. elim (cases_eq k number) [
    | inl here ↦ ap (stage_of new) here ∙ staged.stage_here ∙ is ∙ sym (ap stage_told (there k here))
    | inr apart ↦ staged.stage_there k apart ∙ kept.stages k ∙ sym (ap stage_told (place_others places number k p apart))
  ];
  writes = λ k busy. elim (cases_eq k number) [
    | inl here ↦ ap (writes_of_place new) here ∙ staged.writes_here ∙ writes (sym (ap is_empty (there k here)) ∙ busy) ∙ sym (ap (λ q. pairs_of (entries_in q)) (there k here))
    | inr apart ↦
        let same = place_others places number k p apart in
        staged.writes_there k apart ∙ kept.writes k (sym (ap is_empty same) ∙ busy) ∙ sym (ap (λ q. pairs_of (entries_in q)) same)
  ];
} where
  there : (k : ℕ) → k ≡ number → place_in (slice_set places number p) k ≡ told p
  there k here = ap (place_in (slice_set places number p)) here ∙ place_written places number p within

-- The lowest empty place that the file finds is the one that the book counts. If the book has none, the file may find
-- one past the book's last.
abbrev pub Lowest : File → ℕ → ℕ → Option ℕ → Type 0
Lowest file first left None = empty_from file first left ≡ first + left
Lowest file first left (Some place) = empty_from file first left ≡ min place (first + left)

one_more : (test : Bool) (file : File) (first left : ℕ) (rest : Option ℕ) → is_empty (file.places first) ≡ test → Lowest file (first + 1) left rest
    → Lowest file first (suc left) (if test then Some first else rest)
one_more true file first left rest is below =
    let here : empty_from file first (suc left) ≡ first = cond-true (is_empty (file.places first)) first (empty_from file (first + 1) left) is in
    omega (arith, here)
one_more false file first left None is below = cond-false (is_empty (file.places first)) first (empty_from file (first + 1) left) is ∙ below ∙ omega arith
one_more false file first left (Some place) is below =
    let there : empty_from file first (suc left) ≡ empty_from file (first + 1) left = cond-false (is_empty (file.places first)) first (empty_from file (first + 1) left) is in
    omega (arith, there, below)

free_told : (place : Place) → is_free_stage (stage_told place) ≡ is_empty place
free_told Empty = refl
free_told (Prepared entries) = refl
free_told (Sealed entries) = refl

-- a place that is found from a number on isn't below that number
found_since : (first : ℕ) (states : List PlaceState) (place : ℕ) → free_from first states ≡ Some place → first ≤ place
found_since first [] place found = absurd (cc)
found_since first (s ∷ states) place found = elim (cases_Bool (is_free s)) [
  | inl is ↦
      let e : Some first ≡ Some place = sym (cond-true (is_free s) (Some first) (free_from (first + 1) states) is) ∙ found in
      let same : first ≡ place = cc in
      omega (arith, same)
  | inr other ↦
      let e : free_from (first + 1) states ≡ Some place = sym (cond-false (is_free s) (Some first) (free_from (first + 1) states) other) ∙ found in
      let le = found_since (first + 1) states place e in
      omega (arith, le)
]

-- if the book has no more places, what the file finds is past them
past_all : (states : List PlaceState) (file : File) (first : ℕ) (found : Option ℕ) → free_from first states ≡ found → Lowest file first 0 found
past_all states file first None is = omega arith
past_all states file first (Some place) is = let le = found_since first states place is in omega (arith, le)

lowest_from : (states : List PlaceState) (places : List KeptPlace) (file : File) (first : ℕ) → length places ≤ length states
    → ((k : ℕ) → stage_of states k ≡ stage_told (place_in places k)) → ((k : ℕ) → k < length places → file.places (first + k) ≡ place_in places k)
    → Lowest file first (length places) (free_from first states)
lowest_from states [] file first count stages same = past_all states file first (free_from first states) refl
lowest_from [] (p ∷ places) file first count stages same = absurd (let e : ⊥ = omega (arith, count) in e)
lowest_from (s ∷ states) (p ∷ places) file first count stages same =
    let here : file.places first ≡ told p = ap file.places (let e : first ≡ first + 0 = omega arith in e) ∙ same 0 (omega arith) in
    let free : is_free s ≡ is_empty (told p) = ap is_free_stage (stages 0) ∙ free_told (told p) in
    one_more (is_free s) file first (length places) (free_from (first + 1) states) (ap is_empty here ∙ sym free)
    (lowest_from states places file (first + 1) (omega (arith, count)) (λ k. stages (suc k))
    (λ k lt. ap file.places (let e : (first + 1) + k ≡ first + suc k = omega arith in e) ∙ same (suc k) (omega (arith, lt))))

pub lowest : (states : List PlaceState) (places : List KeptPlace) (file : File) → length places ≤ length states → AreKept states places
    → ((k : ℕ) → k < length places → file.places k ≡ place_in places k) → Lowest file 0 (length places) (free_place states)
lowest states places file count kept same =
    lowest_from states places file 0 count kept.stages (λ k lt. ap file.places (let e : 0 + k ≡ k = omega arith in e) ∙ same k lt)

-- the book's test for an empty place is the file's
empty_among_from : (places : List KeptPlace) (file : File) (first : ℕ) → ((k : ℕ) → k < length places → file.places (first + k) ≡ place_in places k)
    → list_any (λ place. is_empty (told place)) places ≡ nat_lt (empty_from file first (length places)) (first + length places)
empty_among_from [] file first same = sym (le-ltb first (first + 0) (omega arith))
empty_among_from (p ∷ places) file first same = elim (cases_Bool (is_empty (told p))) [
  | inl is ↦
      let lowest_is : empty_from file first (suc (length places)) ≡ first =
      cond-true (is_empty (file.places first)) first (empty_from file (first + 1) (length places)) (ap is_empty here ∙ is) in
      or_left (is_empty (told p)) (list_any (λ place. is_empty (told place)) places) is
      ∙ sym (lt-ltb (empty_from file first (suc (length places))) (first + suc (length places)) (omega (arith, lowest_is)))
  | inr other ↦
      ap (λ b. b || list_any (λ place. is_empty (told place)) places) other
      ∙ empty_among_from places file (first + 1) (λ k lt. ap file.places (let e : (first + 1) + k ≡ first + suc k = omega arith in e) ∙ same (suc k) (omega (arith, lt)))
      ∙ ap (λ n. nat_lt n ((first + 1) + length places)) (sym (cond-false (is_empty (file.places first)) first (empty_from file (first + 1) (length places)) (ap is_empty here ∙ other)))
      ∙ ap (nat_lt (empty_from file first (suc (length places)))) (let e : (first + 1) + length places ≡ first + suc (length places) = omega arith in e)
] where
  here : file.places first ≡ told p
  here = ap file.places (let e : first ≡ first + 0 = omega arith in e) ∙ same 0 (omega arith)

pub empty_among : (places : List KeptPlace) (file : File) → ((k : ℕ) → k < length places → file.places k ≡ place_in places k)
    → list_any (λ place. is_empty (told place)) places ≡ nat_lt (empty_from file 0 (length places)) (length places)
empty_among places file same =
    empty_among_from places file 0 (λ k lt. ap file.places (let e : 0 + k ≡ k = omega arith in e) ∙ same k lt)
    ∙ ap (nat_lt (empty_from file 0 (length places))) (let e : 0 + length places ≡ length places = omega arith in e)
