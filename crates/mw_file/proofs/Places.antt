-- A call on a file sets the state of its own place and of no other. Used by: prepare, seal_with, settle, cancel.
use Rattle.std.proofs.Common.{◌≡◌, ◌≢◌, ℕ, ◌+◌, ◌<◌, List, [], ◌∷◌, length, Some, slice_get, slice_set, get_or, arith, sym, ap, ◌∙◌, inl, inr, subst}
use Rattle.std.proofs.lemmas.Option.{slice_get_cases, get_or_from_slice_get, slice_get_within, slice_get_read, slice_get_past}
use Rattle.std.proofs.lemmas.List.{get_or-set_same, get_or-set_other, length-set}
use Rattle.mw_file.specs.declared.place_states.PlaceState.{PlaceState}
use Rattle.mw_file.specs.declared.place_states.Stage.{Stage}
use Rattle.mw_file.specs.declared.place_states.Stage.TheVariants.{Free, Sealed}
use Rattle.mw_file.proofs.Free.{free_stage_at}
use Rattle.mw_file.specs.PlaceStates.{free_place, stage_at, stage_of, writes_in, writes_of_place, if_sealed, roll_calls, IsStaged}

-- if the place is not free, the state that was read there is its state
pub state_at : (states : List PlaceState) (p : ℕ) (s : PlaceState) (stage : Stage) → s ≡ get_or states p s → stage_of states p ≡ stage → (stage ≡ Free → ⊥) → slice_get states p ≡ Some s
state_at states p s stage read is busy = elim ((slice_get_cases states p).1) [
  | inl there ↦
      let same : get_or states p s ≡ there.0 = get_or_from_slice_get states p there.0 s there.2 in
      there.2 ∙ ap Some (sym (read ∙ same))
  | inr past ↦ absurd (busy (sym is ∙ ap stage_at past.1))
]

if_sealed-Sealed : (t : Stage) (n : ℕ) → t ≡ Sealed → if_sealed t n ≡ n
if_sealed-Sealed t n is = ap (λ (u : Stage). if_sealed u n) is

-- the device calls for one sealed place: one for each home word, a sync, one for its commit byte, a sync
pub alone_calls : (states : List PlaceState) (p : ℕ) (s : PlaceState) → slice_get states p ≡ Some s → stage_of states p ≡ Sealed → roll_calls (s ∷ []) ≡ length (writes_of_place states p) + 3
alone_calls states p s at sealed =
    let stage : s.stage ≡ Sealed = sym (ap stage_at at) ∙ sealed in
    let homes = if_sealed-Sealed s.stage (length s.writes.items) stage in
    let commits = if_sealed-Sealed s.stage 1 stage in
    let same = ap length (ap writes_in at) in
    omega (arith, homes, commits, same)

-- what a list has after one element was written
pub get_written : {X : Type 0} (xs : List X) (i : ℕ) (x : X) → i < length xs → slice_get (slice_set xs i x) i ≡ Some x
get_written xs i x within = slice_get_read (slice_set xs i x) (length xs) i x (sym (length-set xs i x)) within (sym (get_or-set_same xs i x x within))

pub get_others : {X : Type 0} (xs : List X) (i j : ℕ) (x : X) → j ≢ i → slice_get (slice_set xs i x) j ≡ slice_get xs j
get_others xs i j x apart = elim ((slice_get_cases xs j).1) [
  | inl there ↦
      slice_get_read (slice_set xs i x) (length xs) j there.0 (sym (length-set xs i x)) there.1 (sym (get_or-set_other xs i j x there.0 apart ∙ there.3)) ∙ sym there.2
  | inr past ↦ slice_get_past (slice_set xs i x) j (let e = length-set xs i x in let le = past.0 in omega arith) ∙ sym past.1
]

-- a place with a new state, and no other
pub staged : (states : List PlaceState) (p : ℕ) (new : PlaceState) → p < length states → IsStaged states (slice_set states p new) p new.stage new.writes.items
staged states p new within = record {
  count = length-set states p new;
  stage_here = ap stage_at (get_written states p new within);
  writes_here = ap writes_in (get_written states p new within);
  stage_there = λ other apart. ap stage_at (get_others states p other new apart);
  writes_there = λ other apart. ap writes_in (get_others states p other new apart);
}

-- a place with a new stage and the same writes
pub staged_as : (states : List PlaceState) (p : ℕ) (old new : PlaceState) → slice_get states p ≡ Some old → new.writes ≡ old.writes
    → IsStaged states (slice_set states p new) p new.stage (writes_of_place states p)
staged_as states p old new at same =
    let is : new.writes.items ≡ writes_of_place states p = ap (λ w. w.items) same ∙ sym (ap writes_in at) in
    subst (λ (w : List (ℕ × ℕ)). IsStaged states (slice_set states p new) p new.stage w) is (staged states p new (slice_get_within states p old at))

-- the place that was found is free and within the list, if the list is known by another name
pub found_free : (states seen : List PlaceState) (place : ℕ) → seen ≡ states → free_place seen ≡ Some place → place < length seen → (stage_of states place ≡ Free) × (place < length states)
found_free states seen place same found within = (
  free_stage_at states place (ap free_place (sym same) ∙ found),
  subst (λ (ss : List PlaceState). place < length ss) same within,
)

-- a place that isn't free is one of the file's
pub state_there : (states : List PlaceState) (place : ℕ) (stage : Stage) → stage_of states place ≡ stage → (stage ≡ Free → ⊥) → place < length states
state_there states place stage is busy = elim ((slice_get_cases states place).1) [
  | inl there ↦ there.1
  | inr past ↦ absurd (busy (sym is ∙ ap stage_at past.1))
]
