-- Defines which records of waiting changes a call on a book writes ahead, and which changes are prepared ahead after it.
-- Used by: mw_core, CallOutcome, place_table.rt, waiting.rt. A change here changes what a call promises of these changes.
use Rattle.std.specs.Prelude.{◌≡◌, ◌+◌, ◌-◌, ◌==◌, ◌&&◌, ◌||◌, not, if◌then◌else◌, ℕ, zero, suc, Bool, true, false, List, [], length, take, min, nat_lt}
use Rattle.std.specs.List.{filter, list_any}
use Rattle.mw_words.specs.Change.{is_change}
use Rattle.mw_words.specs.declared.jobs.Entry.{Entry}
use Rattle.mw_record.specs.Layout.{pairs_of}
use Rattle.mw_look.specs.declared.steps.Call.{Call}
use Rattle.mw_look.specs.declared.steps.Call.TheVariants.{Prepare as PrepareCall, Seal as SealCall, Settle as SettleCall, Cancel as CancelCall}
use Rattle.mw_file.specs.declared.place_states.PlaceState.{PlaceState}
use Rattle.mw_book.specs.declared.answers.Filed.{Filed}
use Rattle.mw_book.specs.declared.answers.Filed.TheVariants.{Made, Broken, Untouched}
use Rattle.mw_book.specs.declared.book.Book.{Book}
use Rattle.mw_book.specs.declared.place_table.PlaceTable.{PlaceTable}
use Rattle.mw_book.specs.declared.waiting.Waiting.{Waiting}
use Rattle.mw_book.specs.declared.waiting.TheConstants.{MOST_AHEAD}
use Rattle.mw_book.specs.OpenFile.{states_in}
use Rattle.mw_book.specs.Permits.{is_vacant, vacant_place}
use Rattle.mw_book.specs.PreparedAhead.{are_writes_of, has_written, is_written, written_place}
use Rattle.mw_book.specs.Representation.{is_prepared_ahead, is_settled, place_at}

-- whether a number below `n` passes a test, and how many do
abbrev pub any_below : (ℕ → Bool) → ℕ → Bool
any_below passes zero = false
any_below passes (suc n) = passes n || any_below passes n

abbrev pub count_below : (ℕ → Bool) → ℕ → ℕ
count_below passes zero = 0
count_below passes (suc n) = if passes n then count_below passes n + 1 else count_below passes n

-- a place is free for a record: it is vacant, and no change is prepared ahead in it
abbrev pub is_free : List PlaceState → PlaceTable → ℕ → Bool
is_free states table place = is_vacant states table place && not (is_prepared_ahead table place)

-- A waiting change is ready to be written ahead by a call for this slot: it is another slot's, is not prepared ahead yet, and is well formed
-- for so many words.
abbrev pub is_ready : (words : ℕ) → List PlaceState → PlaceTable → (places slot : ℕ) → Waiting → Bool
is_ready words states table places slot waiting =
    not (waiting.slot == slot) && not (nat_lt (written_place states table waiting.slot waiting.entries.items places) places) && is_change words waiting.entries.items

-- the first waiting changes that are ready: at most so many, and at most MOST_AHEAD
abbrev pub first_ready : (words : ℕ) → List PlaceState → PlaceTable → (places slot left : ℕ) → List Waiting → List Waiting
first_ready words states table places slot left waiting = take (min MOST_AHEAD left) (filter (is_ready words states table places slot) waiting)

-- one of these changes is this slot's, with the writes of these entries
abbrev pub is_one : ℕ → List Entry → Waiting → Bool
is_one slot entries waiting = (waiting.slot == slot) && are_writes_of (pairs_of waiting.entries.items) entries

abbrev pub is_among : List Waiting → ℕ → List Entry → Bool
is_among waiting slot entries = list_any (is_one slot entries) waiting

module _ {D : Type 0} where
  -- A call makes device calls if it goes well: not a cancel, not a prepare whose record is prepared ahead, and not a settle of a change that
  -- is settled ahead.
  abbrev pub makes_calls : Book D → Call → ℕ → List Entry → Bool
  makes_calls book PrepareCall slot entries = not (has_written book slot entries)
  makes_calls book SealCall slot entries = true
  makes_calls book SettleCall slot entries = not (is_settled book.table (place_at book slot))
  makes_calls book CancelCall slot entries = false

  -- how many of the used places are free for records, and how many are left for waiting changes: a prepare takes one for its own record
  abbrev pub free_places : Book D → ℕ
  free_places book = count_below (is_free (states_in book.held) book.table) book.places

  abbrev pub places_left : Book D → Call → ℕ
  places_left book PrepareCall = free_places book - 1
  places_left book SealCall = free_places book
  places_left book SettleCall = free_places book
  places_left book CancelCall = free_places book

  -- The waiting changes whose records a call writes that goes well. If it makes device calls, they are the first ready ones, as many as
  -- places are left, and at most MOST_AHEAD. Else there are none.
  abbrev pub written_by : Book D → Call → ℕ → List Entry → List Waiting → List Waiting
  written_by book call slot entries waiting =
      if makes_calls book call slot entries then first_ready book.words (states_in book.held) book.table book.places slot (places_left book call) waiting else []

  -- the place whose change is given up if a place is needed for a record: the lowest vacant one if none is free, else no used place
  abbrev pub place_needed : Book D → ℕ
  place_needed book = if free_places book == 0 then vacant_place (states_in book.held) book.table book.places else book.places

  -- The place in which a change is not prepared ahead any more after a call: for a prepare the one that has its own record, if one has, else
  -- the one that is needed. Any other call leaves all that is prepared ahead, so it is no used place.
  abbrev pub place_lost : Book D → Call → ℕ → List Entry → ℕ
  place_lost book PrepareCall slot entries = if has_written book slot entries then written_place (states_in book.held) book.table slot entries book.places else place_needed book
  place_lost book SealCall slot entries = book.places
  place_lost book SettleCall slot entries = book.places
  place_lost book CancelCall slot entries = book.places

  -- a change of this slot with these entries is prepared ahead in a used place other than `lost`
  abbrev pub has_but : Book D → ℕ → ℕ → List Entry → Bool
  has_but book lost slot entries = any_below (λ place. not (place == lost) && is_written (states_in book.held) book.table slot entries place) book.places

  -- Whether a change of the slot `other` with the entries `those` is prepared ahead after a call, by its answer: it was before and is not
  -- lost, or the call went well and wrote it ahead.
  abbrev pub prepared_after : Call → ℕ → List Entry → List Waiting → Book D → Filed → ℕ → List Entry → Bool
  prepared_after call slot entries waiting old Made other those = has_but old (place_lost old call slot entries) other those || is_among (written_by old call slot entries waiting) other those
  prepared_after call slot entries waiting old Broken other those = has_but old (place_lost old call slot entries) other those
  prepared_after call slot entries waiting old Untouched other those = has_written old other those

  -- after the call just these changes are prepared ahead
  abbrev pub PreparesAhead : Call → ℕ → List Entry → List Waiting → Book D → Book D → Filed → Type 0
  PreparesAhead call slot entries waiting old new answer = (other : ℕ) (those : List Entry) → has_written new other those ≡ prepared_after call slot entries waiting old answer other those
