-- Defines how a call on a book ends, for each file of the world (`File` of mw_world) that the book represented before it.
-- Used by: mw_core, CallOutcome. A change here changes what a call promises of the file.
use Rattle.std.specs.Prelude.{◌≡◌, ◌+◌, ◌-◌, ℕ, Bool, true, false, List, length}
use Rattle.mw_words.specs.declared.jobs.Entry.{Entry}
use Rattle.mw_look.specs.declared.steps.Call.{Call}
use Rattle.mw_look.specs.declared.steps.Call.TheVariants.{Prepare as PrepareCall, Settle as SettleCall}
use Rattle.mw_disk.specs.Facts.{Facts}
use Rattle.mw_disk.specs.Runs.{Good, Bad}
use Rattle.mw_file.specs.declared.place_states.PlaceState.{PlaceState}
use Rattle.mw_file.specs.PlaceStates.{roll_calls}
use Rattle.mw_world.specs.Files.Calls.{fails_on, place_for, device_calls, is_made, filed, doubt_of}
use Rattle.mw_world.specs.Files.State.{File, entries_at, broken}
use Rattle.mw_book.specs.declared.answers.Filed.{Filed}
use Rattle.mw_book.specs.declared.answers.Filed.TheVariants.{Made, Broken, Untouched}
use Rattle.mw_book.specs.declared.book.Book.{Book}
use Rattle.mw_book.specs.declared.waiting.Waiting.{Waiting}
use Rattle.mw_book.specs.OpenFile.{disk_in, states_in, OnDisk}
use Rattle.mw_book.specs.PreparedAhead.{has_written}
use Rattle.mw_book.specs.RecordsAhead.{written_by}
use Rattle.mw_book.specs.Representation.{Represents, is_settled, place_at}

-- A run failed: so many writes of records ahead, and then so many other device calls. The calls before the one that failed went well,
-- and none was made after it. The number is that one's, counted from 1 at the other calls; each write ahead counts as the first of them.
-- The outcomes of an honest disk tell which call failed. Of any other disk it is some call of the run.
pub record FailedAt (ahead calls number : ℕ) (old new : Facts) : Type 0 where
  pub failed : Bad (ahead + calls) old new
  pub at : failed.well - ahead + 1 ≡ number

-- How many device calls a settle makes: none if its change is settled in the file already, else those that settle all sealed changes.
abbrev pub settle_calls : Bool → List PlaceState → ℕ
settle_calls true states = 0
settle_calls false states = roll_calls states

-- How many device calls a prepare makes: none if the record is prepared ahead, else as many as the world lists.
abbrev pub prepare_calls : Bool → List Entry → ℕ
prepare_calls true entries = 0
prepare_calls false entries = device_calls PrepareCall entries

-- How many device calls a call makes on a book, for a change of a slot that takes these entries, on a place with those: for a prepare
-- none if its record is prepared ahead, for a settle as many as the book's file needs, and else as many as the world lists.
abbrev pub calls_on : {D : Type 0} → Book D → Call → ℕ → List Entry → List Entry → ℕ
calls_on book PrepareCall slot taken entries = prepare_calls (has_written book slot taken) entries
calls_on book SettleCall slot taken entries = settle_calls (is_settled book.table (place_at book slot)) (states_in book.held)
calls_on book call slot taken entries = device_calls call entries

-- A call made just these device calls, as an honest disk counts them, if it went well: one for each record of a waiting change that it wrote
-- ahead, and those for its own change. If a device call failed, it was one of as many.
abbrev pub CountsCalls : {D : Type 0} → (D → Facts) → Call → ℕ → List Entry → List Waiting → Book D → Book D → Filed → Type 0
CountsCalls facts call slot entries waiting old new Made = OnDisk facts (Good (length (written_by old call slot entries waiting) + calls_on old call slot entries entries)) (disk_in old.held) (disk_in new.held)
CountsCalls facts call slot entries waiting old new Broken = OnDisk facts (Bad (length (written_by old call slot entries waiting) + calls_on old call slot entries entries)) (disk_in old.held) (disk_in new.held)
CountsCalls facts call slot entries waiting old new Untouched = Unit {0}

module _ {D : Type 0} (facts : D → Facts) (call : Call) (slot : ℕ) (entries : List Entry) (waiting : List Waiting) (file : File) (old new : Book D) where
  -- the place that the call is for, how many device calls the world lists for it, how many it makes on the book for its own change, and
  -- how many records of waiting changes it writes ahead
  abbrev pub place_called : ℕ
  place_called = place_for call file old.places slot

  abbrev pub calls_listed : ℕ
  calls_listed = device_calls call (entries_at file place_called)

  abbrev pub calls_made : ℕ
  calls_made = calls_on old call slot entries (entries_at file place_called)

  abbrev pub records_ahead : ℕ
  records_ahead = length (written_by old call slot entries waiting)

  -- The call was made. All its device calls went well, as an honest disk counts them: those for its own change, and one for each record
  -- that it wrote ahead. The book represents the file after the call.
  pub record WasMade : Type 0 where
    pub began : fails_on call file ≡ false
    pub made : OnDisk facts (Good (records_ahead + calls_made)) (disk_in old.held) (disk_in new.held)
    pub shows : Represents facts new (filed call file slot place_called entries)

  -- One of the device calls failed, and the book represents the file after this failure. The number is of a device call that the world
  -- lists. If the call makes as many for its own change as are listed, it is the number of the one that failed.
  pub record WasBroken : Type 0 where
    pub began : fails_on call file ≡ false
    pub number : ℕ
    pub within : is_made calls_listed number ≡ true
    pub failed : OnDisk facts (Bad (records_ahead + calls_made)) (disk_in old.held) (disk_in new.held)
    pub made : calls_made ≡ calls_listed → OnDisk facts (FailedAt records_ahead calls_listed number) (disk_in old.held) (disk_in new.held)
    pub shows : Represents facts new (broken file (doubt_of call (entries_at file place_called)))

  -- The file had failed before, and the call did nothing.
  pub record WasRefused : Type 0 where
    pub refused : fails_on call file ≡ true
    pub same : new ≡ old

  -- how the call ended, by its answer
  abbrev pub Ends : Filed → Type 0
  Ends Made = WasMade
  Ends Broken = WasBroken
  Ends Untouched = WasRefused
