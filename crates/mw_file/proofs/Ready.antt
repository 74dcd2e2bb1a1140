-- An opening may finish the changes of a file in its second layout, or give the second layout to a file without one. Then all
-- places are free.
-- Used by: make_ready, finish, give_second, Recovered.
use Rattle.std.proofs.Common.{◌≡◌, ℕ, ◌*◌, Bool, true, false, List, length, drop, if◌then◌else◌, IsTrue, refl, sym, inl, inr, arith, subst}
use Rattle.std.proofs.lemmas.Bool.{cond-true, cond-false, cases_Bool}
use Rattle.mw_disk.specs.Facts.{Facts}
use Rattle.mw_disk.specs.Runs.{LeavesOnly}
use Rattle.mw_disk.proofs.RunLaws.{leaves_wider}
use Rattle.mw_record.specs.declared.layout.Layout.TheVariants.{First, Second}
use Rattle.mw_record.specs.declared.layout.TheConstants.{PLACES_GROW}
use Rattle.mw_record.specs.Layout.{size, second_part}
use Rattle.mw_record.specs.Damages.{is_switched, layout_of, at_of, words_of, found_places, places_of}
use Rattle.mw_record.specs.Contents.{HasSecond}
use Rattle.mw_record.proofs.Faults.{first_layout, second_layout}
use Rattle.mw_file.specs.declared.place_states.PlaceState.{PlaceState}
use Rattle.mw_file.specs.declared.place_states.Stage.TheVariants.{Free}
use Rattle.mw_file.specs.PlaceStates.{stage_of, writes_of_place, all_free}
use Rattle.mw_file.specs.RecoveryInvariant.{IsFile}
use Rattle.mw_file.specs.Migration.{migration_calls, CanMigrate, CanGrow, IsMigrated}
use Rattle.mw_file.specs.OpeningEnds.{repair_calls, ready_calls, begins_at, CanOpen, OpensAs}
use Rattle.mw_file.specs.RollForward.{CanRepair, CanFinish, IsRolled}
use Rattle.mw_file.specs.Stores.{IsDurable}
use Rattle.mw_file.proofs.Free.{stage_of-all_free}
use Rattle.mw_file.proofs.Bytes.{placed_as}
use Rattle.mw_file.proofs.Migrated.{is_first}
use Rattle.mw_file.proofs.Safety.{is_file}

-- a fact of a second layout, if its offset and sizes are known by other names
pub second_as : (P : ℕ → ℕ → ℕ → Type 0) (at at2 words words2 places places2 : ℕ) → at ≡ at2 → words ≡ words2 → places ≡ places2 → P at words places → P at2 words2 places2
second_as P at at2 words words2 places places2 is_at is_words is_places p =
    subst (λ (k : ℕ). P k words2 places2) is_at (subst (λ (n : ℕ). P at n places2) is_words (subst (λ (n : ℕ). P at words n) is_places p))

pub roll_as : (f : Facts) (at at2 words words2 : ℕ) (states : List PlaceState) (contents : List ℕ) → at ≡ at2 → words ≡ words2
    → CanRepair f at2 words2 (length states) states contents → CanRepair f at words (length states) states contents
roll_as f at at2 words words2 states contents is_at is_words can =
    second_as (λ k n p. CanRepair f k n (length states) states contents) at2 at words2 words 0 0 (sym is_at) (sym is_words) refl can

pub rolled_as : (f f2 : Facts) (at at2 words words2 : ℕ) (states : List PlaceState) → at ≡ at2 → words ≡ words2 → IsRolled at words 0 states f f2 → IsRolled at2 words2 0 states f f2
rolled_as f f2 at at2 words words2 states is_at is_words rolled =
    second_as (λ k n p. IsRolled k n 0 states f f2) at at2 words words2 0 0 is_at is_words refl rolled

-- the layout that was found tells whether the switch byte is set
module _ (image : List ℕ) where
  first_by : (b : Bool) → (if b then Second else First) ≡ First → b ≡ false
  first_by false is = refl
  first_by true is = cc

  second_by : (b : Bool) → (if b then Second else First) ≡ Second → b ≡ true
  second_by true is = refl
  second_by false is = cc

  pub is_unset : layout_of image ≡ First → is_switched image ≡ false
  is_unset is = first_by (is_switched image) is

  pub is_set : layout_of image ≡ Second → is_switched image ≡ true
  is_set is = second_by (is_switched image) is

  -- what follows from the layout: the places, where the second layout begins, the device calls, and what is known of the disk
  pub places_unset : layout_of image ≡ First → PLACES_GROW * found_places image ≡ places_of image
  places_unset is = sym (cond-false (is_switched image) (found_places image) (PLACES_GROW * found_places image) (is_unset is))

  pub places_set : layout_of image ≡ Second → found_places image ≡ places_of image
  places_set is = sym (cond-true (is_switched image) (found_places image) (PLACES_GROW * found_places image) (is_set is))

  pub begins_unset : layout_of image ≡ First → size First (words_of image) (found_places image) ≡ begins_at image
  begins_unset is = sym (cond-false (is_switched image) (at_of image) (size First (words_of image) (found_places image)) (is_unset is))

  pub begins_set : layout_of image ≡ Second → at_of image ≡ begins_at image
  begins_set is = sym (cond-true (is_switched image) (at_of image) (size First (words_of image) (found_places image)) (is_set is))

  pub calls_unset : layout_of image ≡ First → migration_calls ≡ ready_calls image
  calls_unset is = sym (cond-false (is_switched image) (repair_calls image) migration_calls (is_unset is))

  pub calls_set : layout_of image ≡ Second → repair_calls image ≡ ready_calls image
  calls_set is = sym (cond-true (is_switched image) (repair_calls image) migration_calls (is_set is))

  pub can_grow : (f : Facts) (contents : List ℕ) → layout_of image ≡ First → CanOpen f image contents → CanGrow f image contents
  can_grow f contents is can = subst (λ (b : Bool). OpensAs b f image contents) (is_unset is) can

  pub can_finish : (f : Facts) (contents : List ℕ) → layout_of image ≡ Second → CanOpen f image contents → CanFinish f image contents
  can_finish f contents is can = subst (λ (b : Bool). OpensAs b f image contents) (is_set is) can

-- a file in its first layout may be migrated, with these bytes as its second
pub can_migrate : (f : Facts) (image contents second : List ℕ) (at : ℕ) → CanGrow f image contents → at ≡ size First (words_of image) (found_places image)
    → second ≡ second_part (PLACES_GROW * found_places image) contents → CanMigrate f at (words_of image) (found_places image) contents second
can_migrate f image contents second at can ends bytes = record {
  honest = can.honest;
  rest = can.rest;
  has = can.has;
  unswitched = can.unswitched;
  ends = ends;
  bytes = bytes;
}

-- after the migration the bytes match states that are all free
pub migrated_durable : (f : Facts) (at words places : ℕ) (contents : List ℕ) (states : List PlaceState) → IsMigrated f at words places contents → length states ≡ places
    → IsTrue (all_free states) → IsDurable f at words contents states
migrated_durable f at words places contents states done count free = record {
  rest = done.rest;
  stores = record {
    has = subst (λ (n : ℕ). HasSecond at words n contents f.reads) (sym count) done.has;
    placed = λ place lt.
        placed_as (drop at f.reads) words place (stage_of states place) Free (writes_of_place states place) (writes_of_place states place)
        (stage_of-all_free states place free) refl (done.closed place (omega (arith, lt, count)));
  };
}

-- a fact of a file, if its number of places is known by another name
pub file_moments : (f f2 : Facts) (places places2 : ℕ) (contents : List ℕ) → places ≡ places2 → LeavesOnly f f2 (IsFile places contents) → LeavesOnly f f2 (IsFile places2 contents)
file_moments f f2 places places2 contents is moments = subst (λ (n : ℕ). LeavesOnly f f2 (IsFile n contents)) is moments

pub second_moments : (f f2 : Facts) (at words places : ℕ) (contents : List ℕ) → LeavesOnly f f2 (HasSecond at words places contents) → LeavesOnly f f2 (IsFile places contents)
second_moments f f2 at words places contents moments = leaves_wider f f2 (is_file at words places contents) moments

-- a disk that an opening may go on with has a file
pub open_file : (f : Facts) (image contents : List ℕ) → CanOpen f image contents → IsFile (places_of image) contents f.reads
open_file f image contents can = elim (cases_Bool (is_switched image)) [
  | inl set ↦
      let finish : CanFinish f image contents = subst (λ (b : Bool). OpensAs b f image contents) set can in
      subst (λ (n : ℕ). IsFile n contents f.reads) (places_set image (second_layout image set)) (is_file (at_of image) (words_of image) (found_places image) contents f.reads finish.has)
  | inr unset ↦
      let grow : CanGrow f image contents = subst (λ (b : Bool). OpensAs b f image contents) unset can in
      subst (λ (n : ℕ). IsFile n contents f.reads) (places_unset image (first_layout image unset)) (is_first (words_of image) (found_places image) contents f.reads grow.unswitched grow.has)
]
