-- Defines what a crash during a call on a book, or between two calls, leaves of the file.
-- Used by: mw_core, mw_engine, mw_law_threads, CallOutcome, laws.rt. A change here changes what a call promises.
use Rattle.std.specs.Prelude.{ℕ, List, IsTrue}
use Rattle.mw_words.specs.declared.jobs.Entry.{Entry}
use Rattle.mw_look.specs.declared.steps.Call.{Call}
use Rattle.mw_disk.specs.Facts.{Facts}
use Rattle.mw_disk.specs.Runs.{LeavesOnly}
use Rattle.mw_world.specs.Files.Calls.{place_for}
use Rattle.mw_world.specs.Files.Crashes.{IsFileOfEither, at_stake}
use Rattle.mw_world.specs.Files.State.{File}
use Rattle.mw_book.specs.declared.answers.Filed.{Filed}
use Rattle.mw_book.specs.declared.answers.Filed.TheVariants.{Made, Broken, Untouched}
use Rattle.mw_book.specs.declared.book.Book.{Book}
use Rattle.mw_book.specs.OpenFile.{disk_in, OnDisk}
use Rattle.mw_book.specs.Representation.{Represents}

-- If the disk is honest, a crash at any moment between these two leaves a file of these words, or of these with this change put over
-- them.
abbrev pub LeavesEither : List ℕ → List Entry → Facts → Facts → Type 0
LeavesEither words change old new = IsTrue old.honest → LeavesOnly old new (IsFileOfEither words change)

-- The change at stake in a call on a place: the one that the call seals, else the one in doubt, if there is one. If the call did
-- nothing, it is the one in doubt.
abbrev pub stake_of : Filed → Call → File → ℕ → List Entry
stake_of Untouched call file place = file.doubt
stake_of Made call file place = at_stake call file place
stake_of Broken call file place = at_stake call file place

-- A crash at any moment since the call began left a file of the words before the call, or of these with the change at stake put over
-- them. This holds of each file that the book represented before the call.
abbrev pub IsCrashSafe : {D : Type 0} → (D → Facts) → Call → ℕ → Book D → Book D → Filed → Type 0
IsCrashSafe facts call slot old new result = (file : File) → Represents facts old file
    → OnDisk facts (LeavesEither file.contents (stake_of result call file (place_for call file old.places slot))) (disk_in old.held) (disk_in new.held)

-- On an honest disk, a crash between two calls leaves a file of the words that the book represents, or of these with the change in
-- doubt put over them.
abbrev pub LeavesWords : {D : Type 0} → (D → Facts) → Type 0
LeavesWords {D} facts = (book : Book D) (file : File) → Represents facts book file → OnDisk facts (LeavesEither file.contents file.doubt) (disk_in book.held) (disk_in book.held)
