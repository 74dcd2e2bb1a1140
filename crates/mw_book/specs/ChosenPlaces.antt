-- Defines which waiting changes a call writes ahead, and into which places: places that are vacant and free in the file.
-- Used by: waiting.rt.
use Rattle.std.specs.Prelude.{◌≡◌, ◌<◌, ◌≤◌, ◌==◌, ◌-◌, ◌&&◌, ◌++◌, not, ℕ, Bool, true, false, List, length, take, min, nat_le, None, get_or, All}
use Rattle.std.specs.List.{filter}
use Rattle.mw_words.specs.declared.jobs.Entry.{Entry}
use Rattle.mw_record.specs.Layout.{pairs_of}
use Rattle.mw_file.specs.declared.new_changes.NewChange.{NewChange}
use Rattle.mw_file.specs.declared.place_states.PlaceState.{PlaceState}
use Rattle.mw_file.specs.declared.place_states.Stage.TheVariants.{Prepared}
use Rattle.mw_file.specs.NewChanges.{MayPrepare, IsNoPlaceOf}
use Rattle.mw_file.specs.PlaceStates.{stage_of, writes_of_place}
use Rattle.mw_book.specs.declared.place_table.PlaceTable.{PlaceTable}
use Rattle.mw_book.specs.declared.waiting.Waiting.{Waiting}
use Rattle.mw_book.specs.declared.waiting.TheConstants.{MOST_AHEAD}
use Rattle.mw_book.specs.Permits.{is_vacant}
use Rattle.mw_book.specs.PreparedAhead.{is_written, written_place}
use Rattle.mw_book.specs.RecordsAhead.{count_below, is_among, is_free, is_ready}
use Rattle.mw_book.specs.Representation.{is_prepared_ahead, place_in_file}

-- A waiting change of the slot `other` is not the calling slot's, and is not prepared ahead.
abbrev pub is_new_for : List PlaceState → PlaceTable → ℕ → ℕ → ℕ → List Entry → Bool
is_new_for states table places slot other entries = not (other == slot) && (written_place states table other entries places == places)

-- A place was chosen for a change: it is vacant, its number is neither below `low` nor below `top`, and one of the changes is for its
-- place in the file.
pub record IsChosen (states : List PlaceState) (table : PlaceTable) (changes : List NewChange) (low top place : ℕ) : Type 0 where
  pub vacant : is_vacant states table place ≡ true
  pub high : low ≤ place
  pub looked : top ≤ place
  pub here : (new : List PlaceState) → All (λ c. stage_of new c.place.0 ≡ Prepared) changes → stage_of new (place_in_file table place) ≡ Prepared

-- These changes were chosen, for places among the first `places` ones from `low` on. They may be prepared together in a file of so many
-- words. In `next` changes are prepared ahead just in these places, besides those in which one is so in `table`. No chosen place is below `top`.
pub record AreChosen (words : ℕ) (states : List PlaceState) (table : PlaceTable) (places low : ℕ) (next : PlaceTable) (changes : List NewChange) (top : ℕ) : Type 0 where
  pub may : MayPrepare words states changes
  pub most : top ≤ places
  pub same_places : next.file_place ≡ table.file_place
  pub same_settled : next.settled ≡ table.settled
  pub chosen : (place : ℕ) → place < places → is_prepared_ahead table place ≡ false → is_prepared_ahead next place ≡ true → IsChosen states table changes low top place
  pub kept : (place : ℕ) → is_prepared_ahead table place ≡ true → is_prepared_ahead next place ≡ true
  pub past : (place : ℕ) → places ≤ place → is_prepared_ahead next place ≡ is_prepared_ahead table place
  -- a place of the file is none of theirs if no chosen place has it
  pub others : (number : ℕ) → ((place : ℕ) → place < places → place_in_file table place ≡ number → is_prepared_ahead next place ≡ is_prepared_ahead table place) → IsNoPlaceOf changes number

-- A change of this slot with these entries is prepared ahead in a used place in which none was before.
pub record IsThere (table next : PlaceTable) (new : List PlaceState) (places slot : ℕ) (entries : List Entry) : Type 0 where
  pub place : ℕ
  pub low : place < places
  pub was : is_prepared_ahead table place ≡ false
  pub now : is_written new next slot entries place ≡ true

-- The changes were made of these waiting ones. Once their writes are in the file, just these waiting changes are prepared ahead besides
-- those that are so in `table`.
pub record AreAhead (table next : PlaceTable) (places : ℕ) (changes : List NewChange) (written : List Waiting) : Type 0 where
  pub many : length changes ≡ length written
  pub kept : (place : ℕ) → is_prepared_ahead table place ≡ true → get_or next.ahead_for place None ≡ get_or table.ahead_for place None
  pub each : (new : List PlaceState) → All (λ c. writes_of_place new c.place.0 ≡ pairs_of c.entries.items) changes → (slot : ℕ) (entries : List Entry) → is_among written slot entries ≡ true
      → IsThere table next new places slot entries
  pub only : (new : List PlaceState) → All (λ c. writes_of_place new c.place.0 ≡ pairs_of c.entries.items) changes → (place : ℕ) → place < places → is_prepared_ahead table place ≡ false
      → (slot : ℕ) (entries : List Entry) → is_written new next slot entries place ≡ true → is_among written slot entries ≡ true

-- how many of the places from `low` on and below `top` are free
abbrev pub free_within : List PlaceState → PlaceTable → ℕ → ℕ → ℕ
free_within states table low top = count_below (λ place. nat_le low place && is_free states table place) top

-- Some changes were chosen. With those that are chosen of the `rest` they are these, all in all.
pub record IsUnderWay (words : ℕ) (states : List PlaceState) (table : PlaceTable) (places low slot : ℕ) (all : List Waiting) (next : PlaceTable) (changes : List NewChange) (top : ℕ) (rest : List Waiting) : Type 0 where
  pub written : List Waiting
  pub are : AreAhead table next places changes written
  pub most : top ≤ places
  pub in_all : written ++ take (min (MOST_AHEAD - length changes) (free_within states next low top)) (filter (is_ready words states table places slot) rest) ≡ all
