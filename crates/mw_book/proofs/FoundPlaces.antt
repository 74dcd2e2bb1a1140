-- If a book represents a file of the world (`File` of mw_world), the lowest vacant place of the book is the lowest empty
-- place of that file.
-- Used by: vacant_place, Book::has_place.
use Rattle.std.proofs.Common.{◌≡◌, ℕ, zero, suc, ◌+◌, ◌-◌, ◌<◌, ◌≤◌, ◌&&◌, not, Bool, true, false, List, if◌then◌else◌, refl, sym, ap, ◌∙◌, inl, inr, arith}
use Rattle.std.proofs.lemmas.Bool.{and_parts, cond-true, cond-false, cases_Bool}
use Rattle.mw_file.specs.declared.place_states.PlaceState.{PlaceState}
use Rattle.mw_file.specs.declared.place_states.Stage.{Stage}
use Rattle.mw_file.specs.declared.place_states.Stage.TheVariants.{Free, Prepared as PreparedStage, Sealed as SealedStage}
use Rattle.mw_file.specs.PlaceStates.{is_free_stage}
use Rattle.mw_world.specs.Files.State.{File, Place, Empty, Prepared, Sealed, is_empty, is_sealed, empty_from}
use Rattle.mw_book.specs.declared.place_table.PlaceTable.{PlaceTable}
use Rattle.mw_book.specs.Permits.{is_left, is_prepared_stage, is_vacant, vacant_from, vacant_place}
use Rattle.mw_book.specs.Representation.{ArePlaced, is_prepared_ahead, is_settled, stage_held, stage_in_file}

-- a used place is vacant exactly if the world's place is empty
vacant_held : (flag ahead : Bool) (p : Place) → (flag ≡ true → is_sealed p ≡ true) → (ahead ≡ true → is_empty p ≡ true) → (is_left ahead (stage_held flag ahead p) && not flag) ≡ is_empty p
vacant_held true ahead Empty settled none = absurd (let e : false ≡ true = settled refl in cc)
vacant_held true ahead (Prepared entries) settled none = absurd (let e : false ≡ true = settled refl in cc)
vacant_held true true (Sealed entries) settled none = refl
vacant_held true false (Sealed entries) settled none = refl
vacant_held false true p settled none = sym (none refl)
vacant_held false false Empty settled none = refl
vacant_held false false (Prepared entries) settled none = refl
vacant_held false false (Sealed entries) settled none = refl

module _ (states : List PlaceState) (table : PlaceTable) (places : ℕ) (file : File) (placed : ArePlaced states table places file.places) where
  pub vacant_told : (place : ℕ) → place < places → is_vacant states table place ≡ is_empty (file.places place)
  vacant_told place lt =
      ap (λ s. is_left (is_prepared_ahead table place) s && not (is_settled table place)) (placed.stages place lt)
      ∙ vacant_held (is_settled table place) (is_prepared_ahead table place) (file.places place) (placed.ahead place lt) (placed.empty_ahead place lt)

  found_from : (first left : ℕ) → first + left ≤ places → vacant_from states table first left ≡ empty_from file first left
  found_from first zero le = refl
  found_from first (suc left) le =
      let told = vacant_told first (omega (arith, le)) in
      let rest = found_from (first + 1) left (omega (arith, le)) in
      λ i. if told i then first else rest i

  -- the lowest vacant place is the lowest empty one
  pub found_at : vacant_place states table places ≡ empty_from file 0 places
  found_at = found_from 0 places (omega arith)

-- the lowest vacant place is vacant
vacant_there : (states : List PlaceState) (table : PlaceTable) (first left : ℕ) → vacant_from states table first left < first + left
    → is_vacant states table (vacant_from states table first left) ≡ true
vacant_there states table first zero lt = absurd (let e : ⊥ = omega (arith, lt) in e)
vacant_there states table first (suc left) lt = elim (cases_Bool (is_vacant states table first)) [
  | inl is ↦
      let at : vacant_from states table first (suc left) ≡ first = cond-true (is_vacant states table first) first (vacant_from states table (first + 1) left) is in
      ap (is_vacant states table) at ∙ is
  | inr isnt ↦
      let at : vacant_from states table first (suc left) ≡ vacant_from states table (first + 1) left =
      cond-false (is_vacant states table first) first (vacant_from states table (first + 1) left) isnt in
      ap (is_vacant states table) at ∙ vacant_there states table (first + 1) left (omega (arith, at, lt))
]

free_only : (s : Stage) → is_free_stage s ≡ true → s ≡ Free
free_only Free is = refl
free_only PreparedStage is = absurd (let e : false ≡ true = is in cc)
free_only SealedStage is = absurd (let e : false ≡ true = is in cc)

prepared_only : (s : Stage) → is_prepared_stage s ≡ true → s ≡ PreparedStage
prepared_only Free is = absurd (let e : false ≡ true = is in cc)
prepared_only PreparedStage is = refl
prepared_only SealedStage is = absurd (let e : false ≡ true = is in cc)

not_true : (b : Bool) → not b ≡ true → b ≡ false
not_true true is = absurd (let e : false ≡ true = is in cc)
not_true false is = refl

-- a vacant place in which none is prepared ahead is free in the file, and no change is settled ahead in a vacant one
module _ (states : List PlaceState) (table : PlaceTable) (place : ℕ) (vacant : is_vacant states table place ≡ true) where
  both : (is_left (is_prepared_ahead table place) (stage_in_file states table place) ≡ true) × (not (is_settled table place) ≡ true)
  both = and_parts (is_left (is_prepared_ahead table place) (stage_in_file states table place)) (not (is_settled table place)) vacant

  pub free_of : is_prepared_ahead table place ≡ false → stage_in_file states table place ≡ Free
  free_of none = free_only (stage_in_file states table place) (sym (ap (λ b. is_left b (stage_in_file states table place)) none) ∙ both.0)

  pub prepared_of : is_prepared_ahead table place ≡ true → stage_in_file states table place ≡ PreparedStage
  prepared_of ahead = prepared_only (stage_in_file states table place) (sym (ap (λ b. is_left b (stage_in_file states table place)) ahead) ∙ both.0)

  pub plain_of : is_settled table place ≡ false
  plain_of = not_true (is_settled table place) both.1

-- The lowest vacant place has no change that is settled ahead. It is free in the file if none is prepared ahead there, else prepared.
module _ (states : List PlaceState) (table : PlaceTable) (places : ℕ) (room : vacant_place states table places < places) where
  pub vacant_so : is_vacant states table (vacant_place states table places) ≡ true
  vacant_so = vacant_there states table 0 places (let lt = room in omega (arith, lt))

  parts : (is_left (is_prepared_ahead table (vacant_place states table places)) (stage_in_file states table (vacant_place states table places)) ≡ true) × (not (is_settled table (vacant_place states table places)) ≡ true)
  parts =
      and_parts (is_left (is_prepared_ahead table (vacant_place states table places)) (stage_in_file states table (vacant_place states table places)))
      (not (is_settled table (vacant_place states table places))) vacant_so

  pub vacant_free : is_prepared_ahead table (vacant_place states table places) ≡ false → stage_in_file states table (vacant_place states table places) ≡ Free
  vacant_free none =
      free_only (stage_in_file states table (vacant_place states table places))
      (sym (ap (λ b. is_left b (stage_in_file states table (vacant_place states table places))) none) ∙ parts.0)

  pub vacant_prepared : is_prepared_ahead table (vacant_place states table places) ≡ true → stage_in_file states table (vacant_place states table places) ≡ PreparedStage
  vacant_prepared ahead =
      prepared_only (stage_in_file states table (vacant_place states table places))
      (sym (ap (λ b. is_left b (stage_in_file states table (vacant_place states table places))) ahead) ∙ parts.0)

  pub vacant_plain : is_settled table (vacant_place states table places) ≡ false
  vacant_plain = not_true (is_settled table (vacant_place states table places)) parts.1

-- places that are vacant alike have the same lowest vacant one
pub vacant_alike : (states others : List PlaceState) (table other : PlaceTable) (first left : ℕ) → ((k : ℕ) → k < first + left → is_vacant others other k ≡ is_vacant states table k)
    → vacant_from others other first left ≡ vacant_from states table first left
vacant_alike states others table other first zero same = refl
vacant_alike states others table other first (suc left) same =
    let here = same first (omega arith) in
    let rest = vacant_alike states others table other (first + 1) left (λ k lt. same k (omega (arith, lt))) in
    λ i. if here i then first else rest i

-- one more place was looked at, and is not vacant
pub vacant_more : (states : List PlaceState) (table : PlaceTable) (first places : ℕ) → first < places → is_vacant states table first ≡ false
    → vacant_from states table (first + 1) (places - (first + 1)) ≡ vacant_from states table first (places - first)
vacant_more states table first places lt isnt =
    let next : places - first ≡ suc (places - (first + 1)) = omega (arith, lt) in
    sym (ap (vacant_from states table first) next ∙ cond-false (is_vacant states table first) first (vacant_from states table (first + 1) (places - (first + 1))) isnt)
