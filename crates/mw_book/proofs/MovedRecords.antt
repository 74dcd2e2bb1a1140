-- If the change that is prepared ahead in the lowest vacant place moves to a free place, the book represents the same files,
-- with the same changes prepared ahead.
-- Used by: Book::make_room.
use Rattle.std.proofs.Common.{◌≡◌, ◌≢◌, ℕ, ◌+◌, ◌-◌, ◌==◌, ◌<◌, ◌≤◌, ◌&&◌, not, Bool, true, false, List, length, if◌then◌else◌, refl, sym, ap, ◌∙◌, inl, inr, arith}
use Rattle.std.proofs.lemmas.Bool.{cases_eq, cond-true, cond-false, eq-eqb, ne_eqb}
use Rattle.mw_words.specs.declared.jobs.Entry.{Entry}
use Rattle.mw_disk.specs.Facts.{Facts}
use Rattle.mw_file.specs.declared.place_states.PlaceState.{PlaceState}
use Rattle.mw_file.specs.declared.place_states.Stage.TheVariants.{Free as FreeStage, Prepared as PreparedStage}
use Rattle.mw_file.specs.PlaceStates.{is_free_stage, stage_of, writes_of_place}
use Rattle.mw_world.specs.Files.State.{Place, is_empty}
use Rattle.mw_book.specs.declared.book.Book.{Book}
use Rattle.mw_book.specs.declared.place_table.PlaceTable.{PlaceTable}
use Rattle.mw_book.specs.FilePlaces.{IsPermutation}
use Rattle.mw_book.specs.OpenFile.{states_in, disk_in}
use Rattle.mw_book.specs.Permits.{is_left, is_vacant, vacant_place}
use Rattle.mw_book.specs.PreparedAhead.{has_written, is_written}
use Rattle.mw_book.specs.RecordsAhead.{any_below, count_below, free_places, is_free, place_needed}
use Rattle.mw_book.specs.Representation.{ArePlaced, HasParts, is_prepared_ahead, is_settled, stage_held, stage_in_file}
use Rattle.mw_book.specs.SameFiles.{HasMadeRoom, RepresentsSame}
use Rattle.mw_book.specs.TakenPlaces.{taken}
use Rattle.mw_book.proofs.CountedPlaces.{count_more, count_some}
use Rattle.mw_book.proofs.FoundPlaces.{free_of, plain_of, prepared_of, vacant_alike}
use Rattle.mw_book.proofs.PlacedAhead.{empty_told}
use Rattle.mw_book.proofs.PlacesAhead.{held_plain, told_empty}
use Rattle.mw_book.proofs.RecordsAhead.{but_none, free_parts, has_any, has_parts, none_needed, not_written, nothing_lost}
use Rattle.mw_book.proofs.RepresentedFiles.{shows_parts}
use Rattle.mw_book.proofs.TakenPlaces.{ahead_now, aheads_now, others_now, own_now, place_now, taken_has, written_now}

-- what an empty place without a change that is prepared ahead, and one with such a change, have in the file
held_ahead : (flag ahead : Bool) (p : Place) → flag ≡ false → ahead ≡ true → stage_held flag ahead p ≡ PreparedStage
held_ahead flag ahead p plain on = ap (λ b. stage_held b ahead p) plain ∙ ap (λ b. stage_held false b p) on

module _ (states : List PlaceState) (table : PlaceTable) (places place free : ℕ) (low : place < length table.file_place) (lower : free < length table.file_place) (wide : length table.ahead_for ≡ length table.file_place)
    (permuted : IsPermutation table.file_place places) (used : place < places) (also : free < places) (on : is_prepared_ahead table place ≡ true) (off : is_prepared_ahead table free ≡ false)
    (vacant : is_vacant states table place ≡ true) (open_there : is_vacant states table free ≡ true) where
  abbrev now : PlaceTable
  now = taken table place free

  apart : free ≢ place
  apart same = let e : true ≡ false = sym on ∙ sym (ap (is_prepared_ahead table) same) ∙ off in cc

  was_free : stage_in_file states table free ≡ FreeStage
  was_free = free_of states table free open_there off

  was_prepared : stage_in_file states table place ≡ PreparedStage
  was_prepared = prepared_of states table place vacant on

  own : is_prepared_ahead now place ≡ false
  own = own_now table place free low lower wide

  moved : is_prepared_ahead now free ≡ true
  moved = ahead_now table place free low lower wide apart ∙ on

  stage_place : stage_in_file states now place ≡ FreeStage
  stage_place = ap (stage_of states) (place_now table place free low lower wide) ∙ was_free

  stage_free : stage_in_file states now free ≡ PreparedStage
  stage_free = ap (stage_of states) (written_now table place free low lower wide) ∙ was_prepared

  plain_place : is_settled table place ≡ false
  plain_place = plain_of states table place vacant

  plain_free : is_settled table free ≡ false
  plain_free = plain_of states table free open_there

  place_vacant : is_vacant states now place ≡ true
  place_vacant =
      ap (λ b. is_left b (stage_in_file states now place) && not (is_settled table place)) own ∙ ap (λ s. is_free_stage s && not (is_settled table place)) stage_place ∙ ap not plain_place

  free_vacant : is_vacant states now free ≡ true
  free_vacant =
      ap (λ b. is_left b (stage_in_file states now free) && not (is_settled table free)) moved ∙ ap (λ s. is_left true s && not (is_settled table free)) stage_free ∙ ap not plain_free

  vacant_else : (k : ℕ) → k ≢ place → k ≢ free → is_vacant states now k ≡ is_vacant states table k
  vacant_else k other never =
      ap (λ b. is_left b (stage_in_file states now k) && not (is_settled table k)) (aheads_now table place free low lower wide k other never)
      ∙ ap (λ n. is_left (is_prepared_ahead table k) (stage_of states n) && not (is_settled table k)) (others_now table place free low lower wide k other never)

  same_vacant : (k : ℕ) → is_vacant states now k ≡ is_vacant states table k
  same_vacant k = elim (cases_eq k place) [
    | inl here ↦ ap (is_vacant states now) here ∙ place_vacant ∙ sym (ap (is_vacant states table) here ∙ vacant)
    | inr other ↦ elim (cases_eq k free) [
      | inl there ↦ ap (is_vacant states now) there ∙ free_vacant ∙ sym (ap (is_vacant states table) there ∙ open_there)
      | inr never ↦ vacant_else k other never
    ]
  ]

  -- the lowest vacant place is the same
  pub moved_lowest : vacant_place states (taken table place free) places ≡ vacant_place states table places
  moved_lowest = vacant_alike states states table now 0 places (λ k lt. same_vacant k)

  -- as many places are free
  free_else : (k : ℕ) → k ≢ place → k ≢ free → is_free states now k ≡ is_free states table k
  free_else k other never =
      ap (λ b. b && not (is_prepared_ahead now k)) (vacant_else k other never) ∙ ap (λ b. is_vacant states table k && not b) (aheads_now table place free low lower wide k other never)

  abbrev either : ℕ → Bool
  either k = if k == place then true else is_free states table k

  either_place : either place ≡ true
  either_place = cond-true (place == place) true (is_free states table place) (eq-eqb place place refl)

  either_else : (k : ℕ) → k ≢ place → either k ≡ is_free states table k
  either_else k other = cond-false (k == place) true (is_free states table k) (ne_eqb k place other)

  not_free : is_free states table place ≡ false
  not_free = ap (λ b. b && not (is_prepared_ahead table place)) vacant ∙ ap not on

  free_there : is_free states table free ≡ true
  free_there = ap (λ b. b && not (is_prepared_ahead table free)) open_there ∙ ap not off

  now_free_place : is_free states now place ≡ true
  now_free_place = ap (λ b. b && not (is_prepared_ahead now place)) place_vacant ∙ ap not own

  now_taken_free : is_free states now free ≡ false
  now_taken_free = ap (λ b. b && not (is_prepared_ahead now free)) free_vacant ∙ ap not moved

  pub moved_free : count_below (is_free states (taken table place free)) places ≡ count_below (is_free states table) places
  moved_free =
      let one : count_below either places ≡ count_below (is_free states table) places + 1 = count_more (is_free states table) either places place used not_free either_place (λ k lt other. either_else k other) in
      let two : count_below either places ≡ count_below (is_free states now) places + 1 =
      count_more (is_free states now) either places free also now_taken_free (either_else free apart ∙ free_there) (λ k lt never. elim (cases_eq k place) [
        | inl here ↦ ap either here ∙ either_place ∙ sym (ap (is_free states now) here ∙ now_free_place)
        | inr other ↦ either_else k other ∙ sym (free_else k other never)
      ]) in
      omega (arith, one, two)

  pub moved_some : 1 ≤ count_below (is_free states table) places
  moved_some = count_some (is_free states table) places free also free_there

  -- the same changes are prepared ahead
  pub moved_has : (slot : ℕ) (entries : List Entry) → any_below (is_written states (taken table place free) slot entries) places ≡ any_below (is_written states table slot entries) places
  moved_has slot entries =
      taken_has table place free low lower wide places permuted used also states slot entries
      ∙ but_none states table places slot entries free (λ k lt same. ap (is_written states table slot entries) same ∙ not_written states table slot entries free off)

  -- all places match
  pub moved_placed : (at : ℕ → Place) → ArePlaced states table places at → ArePlaced states (taken table place free) places at
  moved_placed at placed = record {
    stages = λ k lt. elim (cases_eq k place) [
      | inl here ↦
          ap (stage_in_file states now) here ∙ stage_place
          ∙ sym (held_plain (is_settled table k) (is_prepared_ahead now k) (at k) (ap (is_settled table) here ∙ plain_place) (ap (is_prepared_ahead now) here ∙ own) ∙ told_empty (at k) (ap is_empty (ap at here) ∙ placed.empty_ahead place used on))
      | inr other ↦ elim (cases_eq k free) [
        | inl there ↦
            ap (stage_in_file states now) there ∙ stage_free ∙ sym (held_ahead (is_settled table k) (is_prepared_ahead now k) (at k) (ap (is_settled table) there ∙ plain_free) (ap (is_prepared_ahead now) there ∙ moved))
        | inr never ↦
            ap (stage_of states) (others_now table place free low lower wide k other never) ∙ placed.stages k lt
            ∙ ap (λ b. stage_held (is_settled table k) b (at k)) (sym (aheads_now table place free low lower wide k other never))
      ]
    ];
    ahead = placed.ahead;
    empty_ahead = λ k lt flag. elim (cases_eq k place) [
      | inl here ↦ absurd (let e : false ≡ true = sym (ap (is_prepared_ahead now) here ∙ own) ∙ flag in cc)
      | inr other ↦ elim (cases_eq k free) [
        | inl there ↦ empty_at at placed k lt there
        | inr never ↦ placed.empty_ahead k lt (sym (aheads_now table place free low lower wide k other never) ∙ flag)
      ]
    ];
    further = placed.further;
    further_not_ahead = placed.further_not_ahead;
    further_none_ahead = λ k le. aheads_now table place free low lower wide k (λ same. omega (arith, same, used, le)) (λ same. omega (arith, same, also, le)) ∙ placed.further_none_ahead k le;
    writes = λ k lt busy. elim (cases_eq k place) [
      | inl here ↦ absurd (let e : true ≡ false = sym (ap is_empty (ap at here) ∙ placed.empty_ahead place used on) ∙ busy in cc)
      | inr other ↦ elim (cases_eq k free) [
        | inl there ↦ absurd (let e : true ≡ false = sym (empty_at at placed k lt there) ∙ busy in cc)
        | inr never ↦ ap (writes_of_place states) (others_now table place free low lower wide k other never) ∙ placed.writes k lt busy
      ]
    ];
  } where
    empty_at : (at : ℕ → Place) → ArePlaced states table places at → (k : ℕ) → k < places → k ≡ free → is_empty (at k) ≡ true
    empty_at at placed k lt there =
        empty_told (at k) (sym (held_plain (is_settled table k) (is_prepared_ahead table k) (at k) (ap (is_settled table) there ∙ plain_free) (ap (is_prepared_ahead table) there ∙ off)) ∙ sym (placed.stages k lt)
        ∙ ap (stage_in_file states table) there ∙ was_free)

-- The book after a change moved to a free place.
module _ {D : Type 0} (facts : D → Facts) (old new : Book D) (place free : ℕ) (low : place < length old.table.file_place) (lower : free < length old.table.file_place) (wide : length old.table.ahead_for ≡ length old.table.file_place)
    (used : place < old.places) (also : free < old.places) (on : is_prepared_ahead old.table place ≡ true) (off : is_prepared_ahead old.table free ≡ false) (vacant : is_vacant (states_in old.held) old.table place ≡ true)
    (open_there : is_vacant (states_in old.held) old.table free ≡ true) (parts : HasParts new old.held old.words old.places old.place_of (taken old.table place free) old.has_failed) where
  pub moved_same : RepresentsSame facts old new
  moved_same = record {
    shows = λ file shows. shows_parts facts new old.held old.words old.places old.place_of (taken old.table place free) old.has_failed file parts (record {
      same_words = shows.same_words;
      same_places = moved_placed (states_in old.held) old.table old.places place free low lower wide old.permuted used also on off vacant open_there file.places shows.same_places;
      same_place_of = shows.same_place_of;
      same_failed = shows.same_failed;
      stands = shows.stands;
    });
    disk = ap disk_in parts.is_held;
    words = parts.is_words;
    places = parts.is_places;
    settled = ap (λ (t : PlaceTable). t.settled) parts.is_table;
    failed = parts.is_failed;
  }

  still_has : (slot : ℕ) (entries : List Entry) → has_written new slot entries ≡ has_written old slot entries
  still_has slot entries =
      has_parts new old.held old.words old.places old.place_of (taken old.table place free) old.has_failed parts slot entries
      ∙ moved_has (states_in old.held) old.table old.places place free low lower wide old.permuted used also on off vacant open_there slot entries ∙ sym (has_any old slot entries)

  still_free : free_places new ≡ free_places old
  still_free =
      free_parts new old.held old.words old.places old.place_of (taken old.table place free) old.has_failed parts
      ∙ moved_free (states_in old.held) old.table old.places place free low lower wide old.permuted used also on off vacant open_there

  some_there : 1 ≤ free_places old
  some_there = moved_some (states_in old.held) old.table old.places place free low lower wide old.permuted used also on off vacant open_there

  pub moved_room : HasMadeRoom old new
  moved_room = record {
    kept = λ slot entries. still_has slot entries ∙ sym (nothing_lost old (place_needed old) slot entries (none_needed old some_there));
    left = ap (λ n. n - 1) still_free;
    fewer = λ slot entries none. still_has slot entries ∙ none;
    some = (let same = still_free in let some = some_there in omega (arith, same, some));
  }

-- a place was free already
pub room_there : {D : Type 0} (old new : Book D) → HasParts new old.held old.words old.places old.place_of old.table old.has_failed → 1 ≤ free_places old → HasMadeRoom old new
room_there old new parts some =
    let same : (slot : ℕ) (entries : List Entry) → has_written new slot entries ≡ has_written old slot entries = λ slot entries.
    has_parts new old.held old.words old.places old.place_of old.table old.has_failed parts slot entries ∙ sym (has_any old slot entries) in
    let free : free_places new ≡ free_places old = free_parts new old.held old.words old.places old.place_of old.table old.has_failed parts in
    record {
      kept = λ slot entries. same slot entries ∙ sym (nothing_lost old (place_needed old) slot entries (none_needed old some));
      left = ap (λ n. n - 1) free;
      fewer = λ slot entries none. same slot entries ∙ none;
      some = omega (arith, free, some);
    }
