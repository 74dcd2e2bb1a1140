-- If one place of a book's open file and the same place of the file that it represents get a new stage, all places still
-- match. Used by: FiledCalls, GivenUp, PlacedAhead.
use Rattle.std.proofs.Common.{◌≡◌, ◌≢◌, ◌<◌, ◌≤◌, ℕ, true, false, List, Option, None, is_some, get_or, sym, ap, subst, ◌∙◌, inl, inr, arith}
use Rattle.std.proofs.lemmas.Bool.{cases_eq}
use Rattle.mw_record.specs.Records.{Pairs}
use Rattle.mw_record.specs.Layout.{pairs_of}
use Rattle.mw_file.specs.declared.place_states.PlaceState.{PlaceState}
use Rattle.mw_file.specs.declared.place_states.Stage.{Stage}
use Rattle.mw_file.specs.declared.place_states.Stage.TheVariants.{Free as FreeStage}
use Rattle.mw_file.specs.PlaceStates.{stage_of, writes_of_place, IsStaged}
use Rattle.mw_world.specs.Files.Stages.{stage_told}
use Rattle.mw_world.specs.Files.State.{Place, is_empty, is_sealed, entries_in}
use Rattle.mw_world.specs.Maps.{upd}
use Rattle.mw_world.proofs.MapLaws.{upd_here, upd_there}
use Rattle.mw_book.specs.declared.place_table.PlaceTable.{PlaceTable}
use Rattle.mw_book.specs.FilePlaces.{IsPermutation}
use Rattle.mw_book.specs.Representation.{ArePlaced, ArePlacedBy, is_prepared_ahead, is_settled, place_in_file, stage_held}
use Rattle.mw_book.proofs.PlacesAhead.{held_plain, open_empty, plain_open, told_empty}

-- This place has this stage now, with these writes. All other places have what they had.
pub record IsStagedBy (old : List PlaceState) (stage : ℕ → Stage) (written : ℕ → Pairs) (place : ℕ) (s : Stage) (w : Pairs) : Type 0 where
  pub stage_here : stage place ≡ s
  pub writes_here : written place ≡ w
  pub stage_there : (other : ℕ) → other ≢ place → stage other ≡ stage_of old other
  pub writes_there : (other : ℕ) → other ≢ place → written other ≡ writes_of_place old other

pub staged_by : (old new : List PlaceState) (place : ℕ) (s : Stage) (w : Pairs) → IsStaged old new place s w → IsStagedBy old (stage_of new) (writes_of_place new) place s w
staged_by old new place s w staged = record { stage_here = staged.stage_here; writes_here = staged.writes_here; stage_there = staged.stage_there; writes_there = staged.writes_there }

module _ (old : List PlaceState) (now : ℕ → Stage) (written : ℕ → Pairs) (table : PlaceTable) (places number : ℕ) (at : ℕ → Place) (stage : Stage) (w : Pairs)
    (placed : ArePlaced old table places at) (permuted : IsPermutation table.file_place places) (staged : IsStagedBy old now written (place_in_file table number) stage w) (within : number < places) where
  -- another place has another place in the file
  elsewhere : (k : ℕ) → k < places → k ≢ number → place_in_file table k ≢ place_in_file table number
  elsewhere k lt apart same = apart (permuted.apart k number lt within same)

  past_as : (k : ℕ) → places ≤ k → now k ≡ stage_of old k
  past_as k le = staged.stage_there k (λ same. let low = permuted.within number within in omega (arith, same, low, le))

  -- One place, for which nothing was done ahead, has a new stage in both files.
  module _ (p : Place) (plain : is_settled table number ≡ false) (own : is_prepared_ahead table number ≡ false) where
    plain_at : (k : ℕ) → k ≡ number → is_settled table k ≡ false
    plain_at k here = ap (is_settled table) here ∙ plain

    own_at : (k : ℕ) → k ≡ number → is_prepared_ahead table k ≡ false
    own_at k here = ap (is_prepared_ahead table) here ∙ own

    pub placed_on : stage ≡ stage_told p → (is_empty p ≡ false → w ≡ pairs_of (entries_in p)) → ArePlacedBy now written table places (upd at number p)
    placed_on is writes = record {
      stages = λ k lt. elim (cases_eq k number) [
        | inl here ↦
            ap (λ j. now (place_in_file table j)) here ∙ staged.stage_here ∙ is ∙ sym (ap stage_told (upd_here at number k p here))
            ∙ sym (held_plain (is_settled table k) (is_prepared_ahead table k) (upd at number p k) (plain_at k here) (own_at k here))
        | inr apart ↦
            staged.stage_there (place_in_file table k) (elsewhere k lt apart) ∙ placed.stages k lt
            ∙ sym (ap (stage_held (is_settled table k) (is_prepared_ahead table k)) (upd_there at number k p apart))
      ];
      ahead = λ k lt flag. elim (cases_eq k number) [
        | inl here ↦ absurd (let e : false ≡ true = sym (plain_at k here) ∙ flag in cc)
        | inr apart ↦ ap is_sealed (upd_there at number k p apart) ∙ placed.ahead k lt flag
      ];
      empty_ahead = λ k lt flag. elim (cases_eq k number) [
        | inl here ↦ absurd (let e : false ≡ true = sym (own_at k here) ∙ flag in cc)
        | inr apart ↦ ap is_empty (upd_there at number k p apart) ∙ placed.empty_ahead k lt flag
      ];
      further = λ k le. past_as k le ∙ placed.further k le;
      further_not_ahead = placed.further_not_ahead;
      further_none_ahead = placed.further_none_ahead;
      writes = λ k lt busy. elim (cases_eq k number) [
        | inl here ↦
            let same = upd_here at number k p here in
            ap (λ j. written (place_in_file table j)) here ∙ staged.writes_here ∙ writes (sym (ap is_empty same) ∙ busy) ∙ sym (ap (λ q. pairs_of (entries_in q)) same)
        | inr apart ↦
            let same = upd_there at number k p apart in
            staged.writes_there (place_in_file table k) (elsewhere k lt apart) ∙ placed.writes k lt (sym (ap is_empty same) ∙ busy) ∙ sym (ap (λ q. pairs_of (entries_in q)) same)
      ];
    }

  -- A change that was prepared ahead in a place was given up.
  module _ (aheads : List (Option ℕ)) (freed : stage ≡ FreeStage) (was : is_prepared_ahead table number ≡ true) (gone : is_some (get_or aheads number None) ≡ false)
      (kept : (k : ℕ) → k ≢ number → is_some (get_or aheads k None) ≡ is_prepared_ahead table k) where
    empty_at : is_empty (at number) ≡ true
    empty_at = placed.empty_ahead number within was

    plain_there : is_settled table number ≡ false
    plain_there = plain_open old table places at placed number within (open_empty (at number) empty_at)

    pub placed_without : ArePlacedBy now written (record table { ahead_for = aheads }) places at
    placed_without = record {
      stages = λ k lt. elim (cases_eq k number) [
        | inl here ↦
            ap (λ j. now (place_in_file table j)) here ∙ staged.stage_here ∙ freed ∙ sym (ap stage_told (ap at here) ∙ told_empty (at number) empty_at)
            ∙ sym (held_plain (is_settled table k) (is_some (get_or aheads k None)) (at k) (ap (is_settled table) here ∙ plain_there) (ap (λ j. is_some (get_or aheads j None)) here ∙ gone))
        | inr apart ↦
            staged.stage_there (place_in_file table k) (elsewhere k lt apart) ∙ placed.stages k lt
            ∙ sym (ap (λ b. stage_held (is_settled table k) b (at k)) (kept k apart))
      ];
      ahead = placed.ahead;
      empty_ahead = λ k lt flag. elim (cases_eq k number) [
        | inl here ↦ ap is_empty (ap at here) ∙ empty_at
        | inr apart ↦ placed.empty_ahead k lt (sym (kept k apart) ∙ flag)
      ];
      further = λ k le. past_as k le ∙ placed.further k le;
      further_not_ahead = placed.further_not_ahead;
      further_none_ahead = λ k le. kept k (λ same. omega (arith, same, within, le)) ∙ placed.further_none_ahead k le;
      writes = λ k lt busy. elim (cases_eq k number) [
        | inl here ↦ absurd (let e : true ≡ false = sym (ap is_empty (ap at here) ∙ empty_at) ∙ busy in cc)
        | inr apart ↦ staged.writes_there (place_in_file table k) (elsewhere k lt apart) ∙ placed.writes k lt busy
      ];
    }

-- places that are what they were
pub placed_as : (old new : List PlaceState) (table : PlaceTable) (places : ℕ) (at : ℕ → Place) → new ≡ old → ArePlaced old table places at → ArePlaced new table places at
placed_as old new table places at same placed = subst (λ states. ArePlaced states table places at) (sym same) placed
