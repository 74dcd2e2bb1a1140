-- Defines when a book represents a file of the world (`File` of mw_world): same words, fault and change in doubt, and the
-- same changes in the places, but for those settled or prepared ahead. Every call keeps this relation.
-- Used by: mw_core, mw_engine, book.rt, place_table.rt, waiting.rt.
use Rattle.std.specs.Prelude.{◌≡◌, ◌<◌, ◌≤◌, ℕ, Bool, true, false, List, length, get_or, slice_index, Option, None, is_some}
use Rattle.mw_words.specs.declared.limits.TheConstants.{MAX_POOL}
use Rattle.mw_disk.specs.Facts.{Facts}
use Rattle.mw_record.specs.Layout.{pairs_of}
use Rattle.mw_file.specs.declared.place_states.PlaceState.{PlaceState}
use Rattle.mw_file.specs.declared.place_states.Stage.{Stage}
use Rattle.mw_file.specs.declared.place_states.Stage.TheVariants.{Free, Prepared}
use Rattle.mw_file.specs.declared.tenant_file.TenantFile.{TenantFile}
use Rattle.mw_file.specs.PlaceStates.{stage_of, writes_of_place}
use Rattle.mw_world.specs.Files.Stages.{stage_told}
use Rattle.mw_world.specs.Files.State.{File, Place, is_empty, is_sealed, entries_in, file_of}
use Rattle.mw_book.specs.declared.book.Book.{Book}
use Rattle.mw_book.specs.declared.place_table.PlaceTable.{PlaceTable}
use Rattle.mw_book.specs.FilePlaces.{flag_of, place_in}
use Rattle.mw_book.specs.OpenFile.{states_in, FileRecoversTo}

-- the file's place of a place
abbrev pub place_in_file : PlaceTable → ℕ → ℕ
place_in_file table place = place_in table.file_place place

-- how far the change is that the file has for a place, and what it writes
abbrev pub stage_in_file : List PlaceState → PlaceTable → ℕ → Stage
stage_in_file states table place = stage_of states (place_in_file table place)

abbrev pub writes_in_file : List PlaceState → PlaceTable → ℕ → List (ℕ × ℕ)
writes_in_file states table place = writes_of_place states (place_in_file table place)

-- The change of a place is settled ahead: the settle of another change has settled it in the file, and its own slot has not yet.
abbrev pub is_settled : PlaceTable → ℕ → Bool
is_settled table place = flag_of table.settled place

-- A change is prepared ahead in a place: its record is in the file, and its own slot has not prepared it yet.
abbrev pub is_prepared_ahead : PlaceTable → ℕ → Bool
is_prepared_ahead table place = is_some (get_or table.ahead_for place None)

-- the stage that a place has in the file: free if its change is settled ahead, prepared if one is prepared ahead, else as the world's
-- place says
abbrev pub stage_held : (settled ahead : Bool) → Place → Stage
stage_held true ahead place = Free
stage_held false true place = Prepared
stage_held false false place = stage_told place

-- The first places have the stages in the file that the world's places say, with the writes of their entries. There are two exceptions.
-- A place whose change is settled ahead is free in the file, and sealed in the world. A place in which a change is prepared ahead is
-- prepared in the file, and empty in the world. All further places of the file are free, and nothing is done ahead for them. The expected
-- values of a change are not in a file. `stage` and `written` tell of each place of the file how far its change is, and what it writes.
pub record ArePlacedBy (stage : ℕ → Stage) (written : ℕ → List (ℕ × ℕ)) (table : PlaceTable) (places : ℕ) (at : ℕ → Place) : Type 0 where
  pub stages : (place : ℕ) → place < places → stage (place_in_file table place) ≡ stage_held (is_settled table place) (is_prepared_ahead table place) (at place)
  pub ahead : (place : ℕ) → place < places → is_settled table place ≡ true → is_sealed (at place) ≡ true
  pub empty_ahead : (place : ℕ) → place < places → is_prepared_ahead table place ≡ true → is_empty (at place) ≡ true
  pub further : (place : ℕ) → places ≤ place → stage place ≡ Free
  pub further_not_ahead : (place : ℕ) → places ≤ place → is_settled table place ≡ false
  pub further_none_ahead : (place : ℕ) → places ≤ place → is_prepared_ahead table place ≡ false
  pub writes : (place : ℕ) → place < places → is_empty (at place) ≡ false → written (place_in_file table place) ≡ pairs_of (entries_in (at place))

-- the same of the places of a file
abbrev pub ArePlaced : List PlaceState → PlaceTable → ℕ → (ℕ → Place) → Type 0
ArePlaced states table places at = ArePlacedBy (stage_of states) (writes_of_place states) table places at

-- These parts of a book represent this file. Each part says what the file says. On an honest disk the open file recovers to the file's
-- words, with its change in doubt.
pub record PartsRepresent {D : Type 0} (facts : D → Facts) (held : Option (TenantFile D)) (words places : ℕ) (place_of : List ℕ) (table : PlaceTable) (failed : Bool) (file : File) : Type 0 where
  pub same_words : length file.contents ≡ words
  pub same_places : ArePlaced (states_in held) table places file.places
  pub same_place_of : (slot : ℕ) → slot < MAX_POOL → file.place_of slot ≡ slice_index place_of slot
  pub same_failed : file.has_failed ≡ failed
  pub stands : FileRecoversTo facts held file.contents (pairs_of file.doubt)

module _ {D : Type 0} where
  -- the book represents this file
  abbrev pub Represents : (D → Facts) → Book D → File → Type 0
  Represents facts book file = PartsRepresent facts book.held book.words book.places book.place_of book.table book.has_failed file

  -- the place of a slot's change
  abbrev pub place_at : Book D → ℕ → ℕ
  place_at book slot = slice_index book.place_of slot

-- These are the parts of a book.
pub record HasParts {D : Type 0} (book : Book D) (held : Option (TenantFile D)) (words places : ℕ) (place_of : List ℕ) (table : PlaceTable) (failed : Bool) : Type 0 where
  pub is_held : book.held ≡ held
  pub is_words : book.words ≡ words
  pub is_places : book.places ≡ places
  pub is_place_of : book.place_of ≡ place_of
  pub is_table : book.table ≡ table
  pub is_failed : book.has_failed ≡ failed

-- the world's file of these words if it didn't open
abbrev pub unopened : List ℕ → File
unopened words = record (file_of words) { has_failed = true }
