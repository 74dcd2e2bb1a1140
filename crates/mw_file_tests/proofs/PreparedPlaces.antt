-- If changes pass the tests, they may be prepared together. Used by: may_prepare.
use Rattle.std.proofs.Common.{◌≡◌, ◌≢◌, ◌<◌, ◌≤◌, ◌+◌, ℕ, zero, suc, Bool, true, List, [], ◌∷◌, length, refl, arith, All, IsTrue, Option, Some, None, slice_get}
use Rattle.std.specs.List.{AllPairs, list_all}
use Rattle.std.proofs.lemmas.Bool.{and_parts, leb-true}
use Rattle.std.proofs.lemmas.List.Elements.{All-nil, All-cons}
use Rattle.std.proofs.lemmas.List.Kept.{AllPairs-cons}
use Rattle.mw_words.specs.Change.{is_change}
use Rattle.mw_file.specs.declared.new_changes.NewChange.{NewChange}
use Rattle.mw_file.specs.declared.place_states.PlaceState.{PlaceState}
use Rattle.mw_file.specs.declared.place_states.Stage.{Stage}
use Rattle.mw_file.specs.declared.place_states.Stage.TheVariants.{Free, Prepared, Sealed}
use Rattle.mw_file.specs.PlaceStates.{is_free_stage, stage_of, stage_at}
use Rattle.mw_file.specs.NewChanges.{MayPrepare}
use Rattle.mw_file_tests.specs.Permitted.{is_free_in, has_room, places_rise}

-- what each change that passes a test has, all of them have
module _ (test : NewChange → Bool) (P : NewChange → Type 0) (passes : (c : NewChange) → test c ≡ true → P c) where
  all_pass : (changes : List NewChange) → list_all test changes ≡ true → All P changes
  all_pass [] all = All-nil P
  all_pass (c ∷ changes) all = let parts = and_parts _ _ all in All-cons P c changes (passes c parts.0) (all_pass changes parts.1)

free_stage : (s : Stage) → is_free_stage s ≡ true → s ≡ Free
free_stage Free is = refl
free_stage Prepared is = absurd (cc)
free_stage Sealed is = absurd (cc)

free_in : (s : Option PlaceState) → is_free_in s ≡ true → stage_at s ≡ Free
free_in None is = absurd (cc)
free_in (Some s) is = free_stage s.stage is

there_in : (states : List PlaceState) (place : ℕ) → is_free_in (slice_get states place) ≡ true → place < length states
there_in [] place is = absurd (cc)
there_in (s ∷ states) zero is = omega arith
there_in (s ∷ states) (suc place) is = let lt = there_in states place is in omega (arith, lt)

-- the places of changes that rise from here on are at or above it
above : (lowest : ℕ) (changes : List NewChange) → places_rise lowest changes ≡ true → All (λ c. lowest ≤ c.place.0) changes
above lowest [] rise = All-nil (λ c. lowest ≤ c.place.0)
above lowest (c ∷ changes) rise =
    let parts = and_parts _ _ rise in
    let le : lowest ≤ c.place.0 = leb-true lowest c.place.0 parts.0 in
    let rest : All (λ d. c.place.0 + 1 ≤ d.place.0) changes = above (c.place.0 + 1) changes parts.1 in
    All-cons (λ d. lowest ≤ d.place.0) c changes le (λ i d lt. let next = rest i d lt in omega (arith, le, next))

below_apart : (a b : ℕ) → a + 1 ≤ b → a ≢ b
below_apart a b le e = absurd (omega (arith, le, e))

-- so no two of them are the same
rise_apart : (lowest : ℕ) (changes : List NewChange) → places_rise lowest changes ≡ true → AllPairs (λ c d. c.place.0 ≢ d.place.0) changes
rise_apart lowest [] rise = λ i j d low high. absurd (omega (arith, high))
rise_apart lowest (c ∷ changes) rise =
    let parts = and_parts _ _ rise in
    let rest : All (λ d. c.place.0 + 1 ≤ d.place.0) changes = above (c.place.0 + 1) changes parts.1 in
    AllPairs-cons (λ c d. c.place.0 ≢ d.place.0) c changes
    (λ i d lt. below_apart c.place.0 _ (rest i d lt))
    (rise_apart (c.place.0 + 1) changes parts.1)

pub may_prepare_from : (words : ℕ) (states : List PlaceState) (changes : List NewChange) → list_all (has_room words states) changes ≡ true → places_rise 0 changes ≡ true
    → MayPrepare words states changes
may_prepare_from words states changes room rise = record {
  there = all_pass (has_room words states) (λ c. c.place.0 < length states) (λ c is. there_in states c.place.0 (and_parts _ _ is).0) changes room;
  free = all_pass (has_room words states) (λ c. stage_of states c.place.0 ≡ Free) (λ c is. free_in (slice_get states c.place.0) (and_parts _ _ is).0) changes room;
  apart = rise_apart 0 changes rise;
  formed = all_pass (has_room words states) (λ c. IsTrue (is_change words c.entries.items)) (λ c is. (and_parts _ _ is).1) changes room;
}
