-- While fewer slots are in use than the quota, a file that has not failed has room for a change. No change is sealed between
-- calls.
-- Used by: Part::new, LoadedFile::admit, LoadedFile::change, LoadedFile::refuse.
use Rattle.std.proofs.Common.{◌≡◌, ◌≢◌, ℕ, ◌+◌, ◌<◌, ◌≤◌, List, [], ◌∷◌, length, true, Some, IsSome, refl, sym, ap, ◌∙◌, inl, inr, arith}
use Rattle.std.proofs.lemmas.Bool.{cases_eq, cases_lt, lt-ltb, and_parts}
use Rattle.std.proofs.lemmas.Option.{slice_get_past}
use Rattle.mw_file.specs.declared.place_states.PlaceState.{PlaceState}
use Rattle.mw_file.specs.declared.place_states.Stage.{Stage}
use Rattle.mw_file.specs.declared.place_states.Stage.TheVariants.{Free, Prepared, Sealed}
use Rattle.mw_file.specs.PlaceStates.{is_free, all_free, stage_of, stage_at, free_place, IsStaged, MaySeal}
use Rattle.mw_file.proofs.Free.{free_stage_at, stage_of-all_free}
use Rattle.mw_file.specs.Taken.{taken, if_taken}
use Rattle.mw_file.proofs.TakenCounts.{has_free, taken_staged}

-- no place is sealed
abbrev pub NoneSealed : List PlaceState → Type 0
NoneSealed states = (place : ℕ) → stage_of states place ≡ Sealed → ⊥

-- a place that has a change is there
pub is_there : (states : List PlaceState) (place : ℕ) → stage_of states place ≢ Free → place < length states
is_there states place change = elim (cases_lt place (length states)) [
  | inl lt ↦ lt
  | inr past ↦ absurd (change (ap stage_at (slice_get_past states place past)))
]

-- if fewer slots are in use than the quota, there is room
pub has_room : (states : List PlaceState) (used quota : ℕ) → taken states ≡ used → used < quota → quota ≤ length states → IsSome (free_place states)
has_room states used quota counted below room = has_free states ∙ lt-ltb (taken states) (length states) (omega (arith, counted, below, room))

-- a change that is prepared is one more
pub one_more : (old new : List PlaceState) (place : ℕ) (writes : List (ℕ × ℕ)) → free_place old ≡ Some place → IsStaged old new place Prepared writes → taken new ≡ taken old + 1
one_more old new place writes free staged =
    let change : stage_of new place ≢ Free = λ e. (let no : Prepared ≡ Free = sym staged.stage_here ∙ e in cc) in
    let there : place < length old = omega (arith, is_there new place change, staged.count) in
    let counted = taken_staged old new place there staged.count staged.stage_there in
    let before : if_taken (stage_of old place) ≡ 0 = ap if_taken (free_stage_at old place free) in
    let after : if_taken (stage_of new place) ≡ 1 = ap if_taken staged.stage_here in
    omega (arith, counted, before, after)

-- a change that is settled or canceled is one less
pub one_less : (old new : List PlaceState) (place : ℕ) (writes : List (ℕ × ℕ)) → stage_of old place ≡ Prepared → IsStaged old new place Free writes → taken new + 1 ≡ taken old
one_less old new place writes prepared staged =
    let change : stage_of old place ≢ Free = λ e. (let no : Prepared ≡ Free = sym prepared ∙ e in cc) in
    let there : place < length old = is_there old place change in
    let counted = taken_staged old new place there staged.count staged.stage_there in
    let before : if_taken (stage_of old place) ≡ 1 = ap if_taken prepared in
    let after : if_taken (stage_of new place) ≡ 0 = ap if_taken staged.stage_here in
    omega (arith, counted, before, after)

-- a place that goes to a stage other than sealed leaves none sealed
pub none_sealed : (old new : List PlaceState) (place : ℕ) (stage : Stage) (writes : List (ℕ × ℕ)) → (stage ≡ Sealed → ⊥) → NoneSealed old → IsStaged old new place stage writes → NoneSealed new
none_sealed old new place stage writes other none staged there sealed = elim (cases_eq there place) [
  | inl same ↦ other (sym staged.stage_here ∙ ap (stage_of new) (sym same) ∙ sealed)
  | inr apart ↦ none there (sym (staged.stage_there there apart) ∙ sealed)
]

-- if none is sealed, any prepared change may be sealed
pub may_seal : (states : List PlaceState) (place : ℕ) → stage_of states place ≡ Prepared → NoneSealed states → MaySeal states place
may_seal states place prepared none = record {
  prepared = prepared;
  apart = λ other addr sealed here. absurd (none other sealed);
}

-- if all places are free, none has a change
pub taken_none : (states : List PlaceState) → all_free states ≡ true → taken states ≡ 0
taken_none [] all = refl
taken_none (s ∷ states) all =
    let rest : taken states ≡ 0 = taken_none states (and_parts (is_free s) (all_free states) all).1 in
    let here : if_taken s.stage ≡ 0 = ap if_taken (stage_of-all_free (s ∷ states) 0 all) in
    omega (arith, rest, here)

-- and none is sealed
pub none_taken : (states : List PlaceState) → all_free states ≡ true → NoneSealed states
none_taken states all place sealed = let no : Free ≡ Sealed = sym (stage_of-all_free states place all) ∙ sealed in cc
