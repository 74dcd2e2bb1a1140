-- Defines in which place a change is prepared ahead: its record is in the file, though its slot has not prepared it yet.
-- Used by: book.rt, place_table.rt. A change here changes which prepares make no device call.
use Rattle.std.specs.Prelude.{ℕ, zero, suc, ◌+◌, ◌==◌, ◌&&◌, ◌≡◌, Bool, true, false, List, [], ◌∷◌, Option, Some, None, get_or, nat_lt, if◌then◌else◌}
use Rattle.mw_words.specs.declared.jobs.Entry.{Entry}
use Rattle.mw_record.specs.Records.{Pairs}
use Rattle.mw_file.specs.declared.place_states.PlaceState.{PlaceState}
use Rattle.mw_book.specs.declared.book.Book.{Book}
use Rattle.mw_book.specs.declared.place_table.PlaceTable.{PlaceTable}
use Rattle.mw_book.specs.OpenFile.{states_in}
use Rattle.mw_book.specs.Representation.{writes_in_file}

-- these are the writes of a change with these entries: the same addresses, with the same new values
abbrev pub are_writes_of : Pairs → List Entry → Bool
are_writes_of [] [] = true
are_writes_of [] (e ∷ entries) = false
are_writes_of (w ∷ writes) [] = false
are_writes_of (w ∷ writes) (e ∷ entries) = (w.0 == e.addr) && (w.1 == e.new) && are_writes_of writes entries

-- what a place tells of a change that is prepared ahead in it names this slot
abbrev pub is_for : Option ℕ → ℕ → Bool
is_for None slot = false
is_for (Some other) slot = other == slot

-- a change of this slot with these entries is prepared ahead in this place
abbrev pub is_written : List PlaceState → PlaceTable → ℕ → List Entry → ℕ → Bool
is_written states table slot entries place = is_for (get_or table.ahead_for place None) slot && are_writes_of (writes_in_file states table place) entries

-- the lowest such place among the `left` places from `first` on; if there is none, the place after the last of them
abbrev pub written_from : List PlaceState → PlaceTable → ℕ → List Entry → ℕ → ℕ → ℕ
written_from states table slot entries first zero = first
written_from states table slot entries first (suc left) = if is_written states table slot entries first then first else written_from states table slot entries (first + 1) left

-- the lowest such place among the first `places` places, or `places`
abbrev pub written_place : List PlaceState → PlaceTable → ℕ → List Entry → ℕ → ℕ
written_place states table slot entries places = written_from states table slot entries 0 places

module _ {D : Type 0} where
  -- one of the used places has such a change
  abbrev pub has_written : Book D → ℕ → List Entry → Bool
  has_written book slot entries = nat_lt (written_place (states_in book.held) book.table slot entries book.places) book.places

  -- no change is prepared ahead
  abbrev pub HasNonePrepared : Book D → Type 0
  HasNonePrepared book = (slot : ℕ) (entries : List Entry) → has_written book slot entries ≡ false
