-- A file has a free place exactly if fewer places have a change than there are.
-- Used by: places_are_counted, mw_plain.
use Rattle.std.proofs.Common.{◌≡◌, ◌≢◌, ℕ, zero, suc, ◌+◌, ◌<◌, ◌≤◌, List, [], ◌∷◌, length, Some, is_some, nat_lt, if◌then◌else◌, refl, sym, ap, ◌∙◌, inl, inr, arith}
use Rattle.std.proofs.lemmas.Bool.{cases_lt, lt-ltb, le-ltb}
use Rattle.mw_file.specs.declared.place_states.PlaceState.{PlaceState}
use Rattle.mw_file.specs.declared.place_states.Stage.{Stage}
use Rattle.mw_file.specs.declared.place_states.Stage.TheVariants.{Free, Prepared, Sealed}
use Rattle.mw_file.specs.PlaceStates.{is_free_stage, free_from, free_place, stage_of}
use Rattle.mw_file.specs.Taken.{if_taken, taken}

taken_few : (states : List PlaceState) → taken states ≤ length states
taken_few [] = omega arith
taken_few (s ∷ states) = let rest = taken_few states in few s.stage rest where
  few : (stage : Stage) → taken states ≤ length states → if_taken stage + taken states ≤ suc (length states)
  few Free le = omega (arith, le)
  few Prepared le = omega (arith, le)
  few Sealed le = omega (arith, le)

one_more : (n m : ℕ) → nat_lt n m ≡ nat_lt (1 + n) (suc m)
one_more n m = elim (cases_lt n m) [
  | inl lt ↦ lt-ltb n m lt ∙ sym (lt-ltb (1 + n) (suc m) (omega (arith, lt)))
  | inr ge ↦ le-ltb n m ge ∙ sym (le-ltb (1 + n) (suc m) (omega (arith, ge)))
]

-- the first place, free or not, and the others
first_free : (stage : Stage) (first : ℕ) (states : List PlaceState) → is_some (free_from (first + 1) states) ≡ nat_lt (taken states) (length states)
    → is_some (if is_free_stage stage then Some first else free_from (first + 1) states) ≡ nat_lt (if_taken stage + taken states) (suc (length states))
first_free Free first states others = sym (lt-ltb (0 + taken states) (suc (length states)) (let e = taken_few states in omega arith))
first_free Prepared first states others = others ∙ one_more (taken states) (length states)
first_free Sealed first states others = others ∙ one_more (taken states) (length states)

some_free : (first : ℕ) (states : List PlaceState) → is_some (free_from first states) ≡ nat_lt (taken states) (length states)
some_free first [] = refl
some_free first (s ∷ states) = first_free s.stage first states (some_free (first + 1) states)

-- some place is free exactly if fewer places have a change than there are
pub has_free : (states : List PlaceState) → is_some (free_place states) ≡ nat_lt (taken states) (length states)
has_free states = some_free 0 states

-- states with equal stages have as many changes
taken_same : (old new : List PlaceState) → length new ≡ length old → ((place : ℕ) → stage_of new place ≡ stage_of old place) → taken new ≡ taken old
taken_same [] [] count same = refl
taken_same [] (t ∷ new) count same = absurd (let e : ⊥ = omega (arith, count) in e)
taken_same (s ∷ old) [] count same = absurd (let e : ⊥ = omega (arith, count) in e)
taken_same (s ∷ old) (t ∷ new) count same =
    let rest : taken new ≡ taken old = taken_same old new (omega (arith, count)) (λ place. same (suc place)) in
    let here : if_taken t.stage ≡ if_taken s.stage = ap if_taken (same 0) in
    omega (arith, rest, here)

-- one place has a new stage
pub taken_staged : (old new : List PlaceState) (place : ℕ) → place < length old → length new ≡ length old
    → ((other : ℕ) → other ≢ place → stage_of new other ≡ stage_of old other) → taken new + if_taken (stage_of old place) ≡ taken old + if_taken (stage_of new place)
taken_staged [] new place lt count others = absurd (let e : ⊥ = omega (arith, lt) in e)
taken_staged (s ∷ old) [] place lt count others = absurd (let e : ⊥ = omega (arith, count) in e)
taken_staged (s ∷ old) (t ∷ new) zero lt count others =
    let rest : taken new ≡ taken old = taken_same old new (omega (arith, count)) (λ other. others (suc other) (λ e. omega (arith, e))) in
    omega (arith, rest)
taken_staged (s ∷ old) (t ∷ new) (suc place) lt count others =
    let rest = taken_staged old new place (omega (arith, lt)) (omega (arith, count)) (λ other ne. others (suc other) (λ e. ne (omega (arith, e)))) in
    let here : if_taken t.stage ≡ if_taken s.stage = ap if_taken (others 0 (λ e. omega (arith, e))) in
    omega (arith, rest, here)
