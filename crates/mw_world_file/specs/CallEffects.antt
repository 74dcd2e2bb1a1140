-- Defines what a call does to a tenant's simulated file: to the file, to its book (what is kept beside it) and to its disk.
-- Used by: src/calls.rt, mw_simulator.
use Rattle.std.specs.Prelude.{◌≡◌, ◌+◌, ℕ, Bool, true, if◌then◌else◌, List, length, slice_index, Option, Some, None, Result, Ok, Err}
use Rattle.mw_memory_disk.specs.Memory.{Memory as Disk, memory_facts, with_name}
use Rattle.mw_disk.specs.Runs.{Later, Good as AllWell, Bad as OneFailed}
use Rattle.mw_words.specs.declared.jobs.Entry.{Entry}
use Rattle.mw_look.specs.declared.steps.Call.{Call}
use Rattle.mw_world.specs.declared.outcomes.Outcome.{Outcome}
use Rattle.mw_world.specs.declared.outcomes.Outcome.TheVariants.{Good, Fail}
use Rattle.mw_world_file.specs.declared.faults.BookFault.{BookFault}
use Rattle.mw_world_file.specs.declared.faults.BookFault.TheVariants.{NotEnabled, Memory}
use Rattle.mw_world_file.specs.declared.simulated_file.SimulatedFile.{SimulatedFile}
use Rattle.mw_world.specs.Files.State.{File, entries_in, entries_at, broken}
use Rattle.mw_world.specs.Files.Calls.{place_for, suits, device_calls, is_made, filed, doubt_of}
use Rattle.mw_world_file.specs.Devices.{place_in, disk_under}
use Rattle.mw_world_file.specs.Books.{Represents, quota_of, places_of_file}

-- a call of `calls` device calls may end like this: the device call that fails, if any, is one of them
abbrev pub may_end : ℕ → Outcome → Bool
may_end calls Good = true
may_end calls (Fail number) = is_made calls number

-- the file after a call about a place, by what the device does
abbrev pub left_by : Call → File → ℕ → ℕ → List Entry → Outcome → File
left_by call file slot place entries Good = filed call file slot place entries
left_by call file slot place entries (Fail number) = broken file (doubt_of call (entries_at file place))

-- the same; None: the place doesn't suit the call, or it can't end so
abbrev pub worked_at : Call → File → ℕ → ℕ → ℕ → List Entry → Outcome → Option File
worked_at call file places slot place entries outcome =
    if suits call file places place
    then (if may_end (device_calls call (entries_at file place)) outcome then Some (left_by call file slot place entries outcome) else None)
    else None

-- The file after a call for the change of a slot. The book uses `places` places of the file. The file hasn't failed
-- unless the call can't fail. None: the call can't be so.
abbrev pub worked : Call → File → ℕ → ℕ → List Entry → Outcome → Option File
worked call file places slot entries outcome = worked_at call file places slot (place_for call file places slot) entries outcome

-- The new book is that of the file after this step. It has as many words and places, and uses as many of them.
pub record Turns (old new : SimulatedFile) (turn : File → Option File) : Type 0 where
  pub places : quota_of new ≡ quota_of old
  pub has : places_of_file new ≡ places_of_file old
  pub words : length new.contents.items ≡ length old.contents.items
  pub shows : (file : File) → Represents old file → (after : File) × (turn file ≡ Some after) × Represents new after

-- How a call on a book ends, for each result. It makes the book of the file after the call; or the call can't be so; or
-- memory is out.
abbrev pub Works : SimulatedFile → Call → ℕ → List Entry → Outcome → Result SimulatedFile BookFault → Type 0
Works old call slot entries outcome (Ok new) = Turns old new (λ file. worked call file (quota_of old) slot entries outcome)
Works old call slot entries outcome (Err NotEnabled) = (file : File) → Represents old file → worked call file (quota_of old) slot entries outcome ≡ None
Works old call slot entries outcome (Err Memory) = Unit {0}

-- how many device calls a call makes for the change of a slot: a settle's depend on the change in the slot's place
abbrev pub calls_for : SimulatedFile → Call → ℕ → ℕ
calls_for book call slot = device_calls call (entries_in (place_in book.places.items (slice_index book.place_of slot)))

-- the disk, scripted so that one more call fails: the one with this number among those to come, counted from 1
abbrev pub failing : Disk → ℕ → Disk
failing disk number = record disk { script = with_name disk number }

-- How one disk came of another by a call of `calls` device calls. All went well; or those before the one with the
-- failing number did, that one failed, and none was made after it.
abbrev pub CallsRan : ℕ → Outcome → Disk → Disk → Type 0
CallsRan calls Good before after = AllWell calls (memory_facts before) (memory_facts after)
CallsRan calls (Fail number) before after =
    (failed : OneFailed calls (memory_facts (failing before number)) (memory_facts after)) × (failed.well + 1 ≡ number)

-- The new book's disk came of the old book's by the device calls of this call. What a crash might have left at a past
-- moment hasn't changed. Nothing is said of a call that made no new book.
abbrev pub CameOf : SimulatedFile → Call → ℕ → Outcome → Result SimulatedFile BookFault → Type 0
CameOf old call slot outcome (Ok new) =
    CallsRan (calls_for old call slot) outcome (disk_under old.device) (disk_under new.device)
    × Later (memory_facts (disk_under old.device)) (memory_facts (disk_under new.device))
CameOf old call slot outcome (Err fault) = Unit {0}
