-- If all places of a file are free, one change may be prepared, sealed and settled alone, and then all places are free again.
-- Used by: mw_plain, mw_world_file, mw_book.
use Rattle.std.proofs.Common.{◌++◌, ◌≡◌, ℕ, zero, suc, ◌+◌, ◌-◌, ◌<◌, ◌≤◌, List, [], ◌∷◌, length, take, true, Some, IsSome, is_some, if◌then◌else◌, refl, sym, ap, ◌∙◌, inl, inr, arith}
use Rattle.std.proofs.lemmas.Bool.{and_parts, and_from, cases_eq, cases_Bool}
use Rattle.mw_file.specs.declared.place_states.PlaceState.{PlaceState}
use Rattle.mw_file.specs.declared.place_states.Stage.{Stage}
use Rattle.mw_file.specs.declared.place_states.Stage.TheVariants.{Free, Prepared, Sealed}
use Rattle.mw_file.specs.PlaceStates.{is_free_stage, is_free, all_free, free_from, free_place, stage_of, IsStaged, MaySeal}

free_stage : (s : Stage) → is_free_stage s ≡ true → s ≡ Free
free_stage Free is = refl
free_stage Prepared is = absurd (cc)
free_stage Sealed is = absurd (cc)

-- no place of such a file has a change
pub stage_of-all_free : (states : List PlaceState) (place : ℕ) → all_free states ≡ true → stage_of states place ≡ Free
stage_of-all_free [] place all = refl
stage_of-all_free (s ∷ states) zero all = free_stage s.stage (and_parts _ _ all).0
stage_of-all_free (s ∷ states) (suc place) all = stage_of-all_free states place (and_parts _ _ all).1

-- if all places are free, so are the first of them
pub first_free : (n : ℕ) (states : List PlaceState) → all_free states ≡ true → all_free (take n states) ≡ true
first_free zero states all = refl
first_free (suc n) [] all = refl
first_free (suc n) (s ∷ states) all = let parts = and_parts _ _ all in and_from _ _ parts.0 (first_free n states parts.1)

-- if all places are free, so are they with one more that is free
pub free_with : (states : List PlaceState) (more : PlaceState) → all_free states ≡ true → is_free more ≡ true → all_free (states ++ more ∷ []) ≡ true
free_with [] more all free = and_from _ _ free refl
free_with (s ∷ states) more all free = let parts = and_parts _ _ all in and_from _ _ parts.0 (free_with states more parts.1 free)

-- some place is free, if all are free and there is one
pub free_place-all_free : (states : List PlaceState) → all_free states ≡ true → 0 < length states → IsSome (free_place states)
free_place-all_free [] all some = absurd (omega arith)
free_place-all_free (s ∷ states) all some = ap (λ b. is_some (if b then Some 0 else free_from 1 states)) (and_parts _ _ all).0

-- if no place has a change, all are free
pub all_free_from : (states : List PlaceState) → ((place : ℕ) → stage_of states place ≡ Free) → all_free states ≡ true
all_free_from [] none = refl
all_free_from (s ∷ states) none = and_from _ _ (ap is_free_stage (none 0)) (all_free_from states (λ place. none (suc place)))

-- the only change of a file may be sealed
pub may_seal_alone : (old new : List PlaceState) (place : ℕ) (writes : List (ℕ × ℕ)) → all_free old ≡ true → IsStaged old new place Prepared writes → MaySeal new place
may_seal_alone old new place writes all staged = record {
  prepared = staged.stage_here;
  apart = λ other addr sealed here. elim (cases_eq other place) [
    | inl same ↦
        let e : Prepared ≡ Sealed = sym staged.stage_here ∙ ap (λ p. stage_of new p) (sym same) ∙ sealed in absurd (cc)
    | inr apart ↦
        let e : Free ≡ Sealed = sym (stage_of-all_free old other all) ∙ sym (staged.stage_there other apart) ∙ sealed in absurd (cc)
  ];
}

-- all places are free again after the only change is gone
pub free_again : (old mid new : List PlaceState) (place : ℕ) (stage : Stage) (v w : List (ℕ × ℕ)) → all_free old ≡ true → IsStaged old mid place stage v → IsStaged mid new place Free w
    → all_free new ≡ true
free_again old mid new place stage v w all first last = all_free_from new (λ other. elim (cases_eq other place) [
  | inl same ↦ ap (λ p. stage_of new p) same ∙ last.stage_here
  | inr apart ↦ last.stage_there other apart ∙ first.stage_there other apart ∙ stage_of-all_free old other all
])

-- a place that goes to one stage and then to another
pub staged_on : (old mid new : List PlaceState) (place : ℕ) (a b : Stage) (v w : List (ℕ × ℕ)) → IsStaged old mid place a v → IsStaged mid new place b w → IsStaged old new place b w
staged_on old mid new place a b v w first last = record {
  count = last.count ∙ first.count;
  stage_here = last.stage_here;
  writes_here = last.writes_here;
  stage_there = λ other apart. last.stage_there other apart ∙ first.stage_there other apart;
  writes_there = λ other apart. last.writes_there other apart ∙ first.writes_there other apart;
}

-- the lowest free place is free
free_at : (first : ℕ) (states : List PlaceState) (place : ℕ) → free_from first states ≡ Some place → (first ≤ place) × (stage_of states (place - first) ≡ Free)
free_at first [] place found = absurd (cc)
free_at first (s ∷ states) place found = elim (cases_Bool (is_free s)) [
  | inl is ↦
      let e : Some first ≡ Some place = sym (ap (λ b. if b then Some first else free_from (first + 1) states) is) ∙ found in
      let same : first ≡ place = cc in
      (omega (arith, same), ap (stage_of (s ∷ states)) (let z : place - first ≡ 0 = omega (arith, same) in z) ∙ free_stage s.stage is)
  | inr other ↦
      let e : free_from (first + 1) states ≡ Some place = sym (ap (λ b. if b then Some first else free_from (first + 1) states) other) ∙ found in
      let more = free_at (first + 1) states place e in
      (omega (arith, more.0), ap (stage_of (s ∷ states)) (let z : place - first ≡ suc (place - (first + 1)) = omega (arith, more.0) in z) ∙ more.1)
]

pub free_stage_at : (states : List PlaceState) (place : ℕ) → free_place states ≡ Some place → stage_of states place ≡ Free
free_stage_at states place found = ap (stage_of states) (let z : place ≡ place - 0 = omega arith in z) ∙ (free_at 0 states place found).1
