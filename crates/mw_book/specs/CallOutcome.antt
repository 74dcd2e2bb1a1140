-- Defines all that is known of a book after a call on it: its answer, the file, and what a crash leaves. It is the contract
-- of `Book::call` as one record.
-- Used by: book.rt. Ends, Answers and Crashes define its first clauses.
use Rattle.std.specs.Prelude.{◌≡◌, ℕ, List}
use Rattle.mw_words.specs.declared.jobs.Entry.{Entry}
use Rattle.mw_look.specs.declared.steps.Call.{Call}
use Rattle.mw_look.specs.declared.steps.Call.TheVariants.{Cancel as CancelCall}
use Rattle.mw_disk.specs.Facts.{Facts}
use Rattle.mw_disk.specs.Runs.{Later}
use Rattle.mw_world.specs.Files.State.{File}
use Rattle.mw_book.specs.declared.answers.Filed.{Filed}
use Rattle.mw_book.specs.declared.book.Book.{Book}
use Rattle.mw_book.specs.declared.waiting.Waiting.{Waiting}
use Rattle.mw_book.specs.Answers.{Answers}
use Rattle.mw_book.specs.Crashes.{IsCrashSafe}
use Rattle.mw_book.specs.Ends.{CountsCalls, Ends}
use Rattle.mw_book.specs.RecordsAhead.{PreparesAhead}
use Rattle.mw_book.specs.SettledAhead.{SettlesAhead}
use Rattle.mw_book.specs.OpenFile.{disk_in, OnDisk}
use Rattle.mw_book.specs.Representation.{Represents}

-- A call for the change of a slot took the old book to the new one, with this answer, while these changes waited.
pub record IsFiled {D : Type 0} (facts : D → Facts) (call : Call) (slot : ℕ) (entries : List Entry) (waiting : List Waiting) (old new : Book D) (result : Filed) : Type 0 where
  pub ends : (file : File) → Represents facts old file → Ends facts call slot entries waiting file old new result
  pub answers : Answers facts call old new result
  pub moments : IsCrashSafe facts call slot old new result
  pub later : OnDisk facts Later (disk_in old.held) (disk_in new.held)
  -- a cancel makes no device call
  pub quiet : call ≡ CancelCall → disk_in new.held ≡ disk_in old.held
  pub words : new.words ≡ old.words
  pub places : new.places ≡ old.places
  pub ahead : SettlesAhead call slot old new result
  pub records : PreparesAhead call slot entries waiting old new result
  pub counts : CountsCalls facts call slot entries waiting old new result
