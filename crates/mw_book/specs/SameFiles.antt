-- Defines that a book represents each file that it represented before, on the same disk, and that it has made room for a
-- record.
-- Used by: book.rt.
use Rattle.std.specs.Prelude.{◌≡◌, ◌≤◌, ◌-◌, ℕ, List, false}
use Rattle.mw_words.specs.declared.jobs.Entry.{Entry}
use Rattle.mw_disk.specs.Facts.{Facts}
use Rattle.mw_world.specs.Files.State.{File}
use Rattle.mw_book.specs.declared.book.Book.{Book}
use Rattle.mw_book.specs.OpenFile.{disk_in}
use Rattle.mw_book.specs.PreparedAhead.{has_written}
use Rattle.mw_book.specs.RecordsAhead.{free_places, has_but, place_needed}
use Rattle.mw_book.specs.Representation.{Represents}

-- The new book represents each file that the old one does. Its disk, its numbers and what is settled ahead are as they were.
pub record RepresentsSame {D : Type 0} (facts : D → Facts) (old new : Book D) : Type 0 where
  pub shows : (file : File) → Represents facts old file → Represents facts new file
  pub disk : disk_in new.held ≡ disk_in old.held
  pub words : new.words ≡ old.words
  pub places : new.places ≡ old.places
  pub settled : new.table.settled ≡ old.table.settled
  pub failed : new.has_failed ≡ old.has_failed

-- Room was made for a record. What was prepared ahead still is, but for the change in the place that was needed. As many places are left for
-- waiting changes.
pub record HasMadeRoom {D : Type 0} (old new : Book D) : Type 0 where
  pub kept : (slot : ℕ) (entries : List Entry) → has_written new slot entries ≡ has_but old (place_needed old) slot entries
  pub left : free_places new - 1 ≡ free_places old - 1
  -- no change is prepared ahead that wasn't
  pub fewer : (slot : ℕ) (entries : List Entry) → has_written old slot entries ≡ false → has_written new slot entries ≡ false
  -- the room that was made
  pub some : 1 ≤ free_places new
