-- Defines that a change is alone: no other change is sealed, settled ahead or prepared ahead, as with one client. Then each
-- call makes just the device calls that the world lists.
-- Used by: laws.rt. A change here changes the law a_change_alone_makes_the_listed_calls.
use Rattle.std.specs.Prelude.{◌≡◌, ◌≢◌, ◌<◌, ◌+◌, ℕ, true, false, List, [], ◌∷◌, length}
use Rattle.mw_words.specs.declared.limits.TheConstants.{MAX_POOL}
use Rattle.mw_words.specs.declared.jobs.Entry.{Entry}
use Rattle.mw_look.specs.declared.steps.Call.{Call}
use Rattle.mw_disk.specs.Facts.{Facts}
use Rattle.mw_world.specs.Files.Calls.{device_calls, place_for, suits}
use Rattle.mw_world.specs.Files.State.{File, entries_at, is_sealed}
use Rattle.mw_book.specs.declared.answers.Filed.{Filed}
use Rattle.mw_book.specs.declared.book.Book.{Book}
use Rattle.mw_book.specs.declared.waiting.Waiting.{Waiting}
use Rattle.mw_book.specs.CallOutcome.{IsFiled}
use Rattle.mw_book.specs.Ends.{calls_on}
use Rattle.mw_book.specs.PreparedAhead.{HasNonePrepared}
use Rattle.mw_book.specs.RecordsAhead.{written_by}
use Rattle.mw_book.specs.SettledAhead.{HasNoneAhead}
use Rattle.mw_book.specs.Representation.{Represents}

-- no used place but this one has a sealed change
abbrev pub IsAlone : File → ℕ → ℕ → Type 0
IsAlone file places place = (other : ℕ) → other < places → other ≢ place → is_sealed (file.places other) ≡ false

-- A call of a run: the file that the book represents before it, the call with its slot and its entries, its answer, and the book after it.
pub record AloneCall (D : Type 0) : Type 0 where
  pub file : File
  pub call : Call
  pub slot : ℕ
  pub entries : List Entry
  pub answer : Filed
  pub after : Book D

module _ {D : Type 0} (facts : D → Facts) where
  -- The call suits the place that it is for. No other change is sealed, none is settled ahead, and none is prepared ahead.
  pub record FindsAlone (book : Book D) (file : File) (call : Call) (slot : ℕ) : Type 0 where
    pub within : slot < MAX_POOL
    pub shows : Represents facts book file
    pub suited : suits call file book.places (place_for call file book.places slot) ≡ true
    pub alone : IsAlone file book.places (place_for call file book.places slot)
    pub none_ahead : HasNoneAhead book
    pub none_prepared : HasNonePrepared book

  -- such a call makes as many device calls as the world lists, if no change waits, so that it writes no record of one
  abbrev pub AloneMakesListedCalls : Type 0
  AloneMakesListedCalls = (book : Book D) (file : File) (call : Call) (slot : ℕ) (entries : List Entry) → FindsAlone book file call slot
      → length (written_by book call slot entries []) + calls_on book call slot entries (entries_at file (place_for call file book.places slot)) ≡ device_calls call (entries_at file (place_for call file book.places slot))

  -- and it settles none ahead
  abbrev pub AloneLeavesNoneAhead : Type 0
  AloneLeavesNoneAhead = (old new : Book D) (file : File) (call : Call) (slot : ℕ) (entries : List Entry) (waiting : List Waiting) (answer : Filed) → FindsAlone old file call slot
      → IsFiled facts call slot entries waiting old new answer → HasNoneAhead new

  -- and if no change waits it leaves none prepared ahead
  abbrev pub AloneLeavesNonePrepared : Type 0
  AloneLeavesNonePrepared = (old new : Book D) (file : File) (call : Call) (slot : ℕ) (entries : List Entry) (answer : Filed) → FindsAlone old file call slot
      → IsFiled facts call slot entries [] old new answer → HasNonePrepared new

  -- A call suits the file that the book represents, and no other change is sealed. Nothing is said of what was done ahead.
  pub record SuitsAlone (book : Book D) (file : File) (call : Call) (slot : ℕ) : Type 0 where
    pub within : slot < MAX_POOL
    pub shows : Represents facts book file
    pub suited : suits call file book.places (place_for call file book.places slot) ≡ true
    pub alone : IsAlone file book.places (place_for call file book.places slot)

  -- these calls were made on the book one after the other, each for a change that is alone, while no change waited
  abbrev pub IsAloneRun : Book D → List (AloneCall D) → Type 0
  IsAloneRun book [] = Unit {0}
  IsAloneRun book (c ∷ calls) = SuitsAlone book c.file c.call c.slot × (IsFiled facts c.call c.slot c.entries [] book c.after c.answer × IsAloneRun c.after calls)

  -- each of them makes as many device calls for its own change as the world lists
  abbrev pub AreListed : Book D → List (AloneCall D) → Type 0
  AreListed book [] = Unit {0}
  AreListed book (c ∷ calls) =
      (calls_on book c.call c.slot c.entries (entries_at c.file (place_for c.call c.file book.places c.slot)) ≡ device_calls c.call (entries_at c.file (place_for c.call c.file book.places c.slot))) × AreListed c.after calls

  -- this is so of each such run from a book on for which nothing was done ahead, as for a new one
  abbrev pub AloneRunsMakeListedCalls : Type 0
  AloneRunsMakeListedCalls = (book : Book D) (calls : List (AloneCall D)) → HasNoneAhead book → HasNonePrepared book → IsAloneRun book calls → AreListed book calls
