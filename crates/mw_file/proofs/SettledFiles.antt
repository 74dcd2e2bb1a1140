-- After a roll forward (redo) of one sealed place, or of all, the file's bytes match states in which these places are free.
-- Used by: Recalled, Safety, SharedSettles.
use Rattle.std.proofs.Common.{◌≡◌, ◌⊎◌, ℕ, ◌+◌, ◌-◌, ◌<◌, ◌≤◌, List, [], ◌∷◌, length, Some, None, slice_index, slice_get, refl, sym, ap, ◌∙◌, inl, inr, arith, subst}
use Rattle.mw_disk.specs.Runs.{SameBut}
use Rattle.mw_record.specs.declared.layout.Layout.TheVariants.{Second}
use Rattle.mw_record.specs.Layout.{place_at}
use Rattle.mw_record.specs.Records.{Pairs, record_at}
use Rattle.mw_record.proofs.Writes.{record_same}
use Rattle.mw_record.proofs.TestsBelow.{few_entries}
use Rattle.mw_record.specs.Contents.{HasWords}
use Rattle.mw_file.specs.declared.place_states.PlaceState.{PlaceState}
use Rattle.mw_file.specs.declared.place_states.Stage.{Stage}
use Rattle.mw_file.specs.declared.place_states.Stage.TheVariants.{Free, Prepared, Sealed}
use Rattle.mw_file.specs.PlaceStates.{stage_of, stage_at, writes_in, writes_of_place, IsStaged}
use Rattle.mw_file.specs.Stores.{PlacedAs}
use Rattle.mw_file.specs.RollForward.{InHomes, AtCommits}
use Rattle.mw_file.proofs.Parts.{PartStores}
use Rattle.mw_file.proofs.Bytes.{placed_as, stores_staged}
use Rattle.mw_file.proofs.RollForwardLaws.{Tells, rolled_others, rolled_shut}

-- a place that isn't sealed has no open record
not_open : (b : List ℕ) (words place : ℕ) (s : Stage) (w : Pairs) → (s ≡ Sealed → ⊥) → PlacedAs b words place s w → record_at Second b words place ≡ None
not_open b words place Free w other placed = placed
not_open b words place Prepared w other placed = placed.shut
not_open b words place Sealed w other placed = absurd (other refl)

sealed_open : (b : List ℕ) (words place : ℕ) (s : Stage) (w : Pairs) → s ≡ Sealed → PlacedAs b words place s w → record_at Second b words place ≡ Some w
sealed_open b words place Sealed w is placed = placed
sealed_open b words place Free w is placed = cc
sealed_open b words place Prepared w is placed = cc

-- the record of each sealed place is open
pub tells_all : (b : List ℕ) (words : ℕ) (contents : List ℕ) (states : List PlaceState) → PartStores b words contents states → Tells b words 0 states
tells_all b words contents states was = record {
  recorded = λ place lt sealed.
      subst (λ (p : ℕ). record_at Second b words p ≡ Some (writes_of_place states place)) (let e : place ≡ 0 + place = omega arith in e)
      (sealed_open b words place (stage_of states place) (writes_of_place states place) sealed (was.placed place lt));
}

-- the same of one place
pub tells_one : (b : List ℕ) (words : ℕ) (contents : List ℕ) (states : List PlaceState) (place : ℕ) (s : PlaceState) → PartStores b words contents states → place < length states
    → slice_get states place ≡ Some s → Tells b words place (s ∷ [])
tells_one b words contents states place s was within at = record {
  recorded = λ i lt sealed.
      let zero_is : i ≡ 0 = omega (arith, lt) in
      let is : place ≡ place + i = omega (arith, zero_is) in
      let stage : stage_of states place ≡ Sealed = ap stage_at at ∙ ap (λ k. stage_of (s ∷ []) k) (sym zero_is) ∙ sealed in
      let writes : writes_of_place states place ≡ writes_of_place (s ∷ []) i = ap writes_in at ∙ ap (λ k. writes_of_place (s ∷ []) k) (sym zero_is) in
      subst (λ (p : ℕ). record_at Second b words p ≡ Some (writes_of_place (s ∷ []) i)) is
      (sealed_open b words place (stage_of states place) (writes_of_place states place) stage (was.placed place within) ∙ ap Some writes);
}

-- One change was rolled forward: its place is free.
pub settle_done : (b c : List ℕ) (words : ℕ) (contents : List ℕ) (states new : List PlaceState) (place : ℕ) (s : PlaceState) (writes : Pairs) → PartStores b words contents states
    → place < length states → slice_get states place ≡ Some s → stage_of states place ≡ Sealed
    → SameBut (λ k. InHomes (s ∷ []) k ⊎ AtCommits words place (s ∷ []) k) b c
    → ((i : ℕ) → i < length (s ∷ []) → stage_of (s ∷ []) i ≡ Sealed → slice_index c (place_at Second words (place + i)) ≡ 0)
    → HasWords Second words (length states) contents c → IsStaged states new place Free writes → PartStores c words contents new
settle_done b c words contents states new place s writes was within at sealed same shut has staged =
    let tells : Tells b words place (s ∷ []) = tells_one b words contents states place s was within at in
    let inside : place + length (s ∷ []) ≤ length states = omega (arith, within) in
    let first_sealed : stage_of (s ∷ []) (place - place) ≡ Sealed = ap (stage_of (s ∷ [])) (let e : place - place ≡ 0 = omega arith in e) ∙ sym (ap stage_at at) ∙ sealed in
    stores_staged b c words contents contents states new place Free writes was staged has
    (λ other lt ne. rolled_others b words (length states) place (s ∷ []) contents was.has inside tells c same other (λ low high is. ne (omega (arith, low, high))))
    (elim (rolled_shut b words (length states) place (s ∷ []) contents was.has inside tells c same shut place within) [
      | inl none ↦ absurd (none (omega arith) (omega arith) first_sealed)
      | inr none ↦ none
    ])

-- All open records were rolled forward: every place is free.
pub open_done : (b c : List ℕ) (words : ℕ) (contents : List ℕ) (states new : List PlaceState) → PartStores b words contents states
    → SameBut (λ k. InHomes states k ⊎ AtCommits words 0 states k) b c
    → ((i : ℕ) → i < length states → stage_of states i ≡ Sealed → slice_index c (place_at Second words (0 + i)) ≡ 0)
    → HasWords Second words (length states) contents c → length new ≡ length states → ((place : ℕ) → stage_of new place ≡ Free) → PartStores c words contents new
open_done b c words contents states new was same shut has count free =
    let tells : Tells b words 0 states = tells_all b words contents states was in
    let inside : 0 + length states ≤ length states = omega arith in
    record {
      has = subst (λ (n : ℕ). HasWords Second words n contents c) (sym count) has;
      placed = λ place lt.
          let within : place < length states = omega (arith, lt, count) in
          placed_as c words place (stage_of new place) Free (writes_of_place new place) (writes_of_place new place) (free place) refl
          (elim (rolled_shut b words (length states) 0 states contents was.has inside tells c same shut place within) [
            | inl none ↦
                let other : stage_of states place ≡ Sealed → ⊥ = λ is. none (omega arith) (omega (arith, within)) (ap (stage_of states) (let e : place - 0 ≡ place = omega arith in e) ∙ is) in
                let closed : record_at Second b words place ≡ None = not_open b words place (stage_of states place) (writes_of_place states place) other (was.placed place within) in
                record_same Second c b words place (rolled_others b words (length states) 0 states contents was.has inside tells c same place none)
                (λ ps is. few_entries Second words ps (was.has.stands.formed place ps within is)) ∙ closed
            | inr none ↦ none
          ]);
    }
