-- Defines what becomes of a tenant's file, and of its book, when all stops and starts again.
-- Used by: src/laws.rt, src/restarts.rt, src/stops.rt, mw_simulator.
use Rattle.std.specs.Prelude.{◌≡◌, ◌≤◌, ◌⊎◌, ◌&&◌, ℕ, Bool, true, false, not, if◌then◌else◌, List, length, nat_le, Option, Some, None, Result, Ok, Err, IsTrue}
use Rattle.mw_memory_disk.specs.Crash.{Tears, unsynced}
use Rattle.mw_disk.specs.DeviceCalls.{DeviceCall}
use Rattle.mw_disk.specs.Facts.{Facts, MayLeave}
use Rattle.mw_memory_disk.specs.Memory.{Memory as Disk, memory_facts, sooner}
use Rattle.mw_disk.specs.Runs.{Later, Good, Bad}
use Rattle.mw_words.specs.declared.jobs.Entry.{Entry}
use Rattle.mw_words.specs.Change.{is_change}
use Rattle.mw_look.specs.declared.steps.Call.{Call}
use Rattle.mw_look.specs.declared.steps.Call.TheVariants.{Prepare as PrepareCall}
use Rattle.mw_record.specs.Damages.{file_words}
use Rattle.mw_file.specs.OpeningEnds.{open_calls}
use Rattle.mw_world_file.specs.declared.cut.Cut.{Cut}
use Rattle.mw_world_file.specs.declared.simulated_file.SimulatedFile.{SimulatedFile}
use Rattle.mw_world_file.specs.declared.faults.BookFault.{BookFault}
use Rattle.mw_world_file.specs.declared.faults.BookFault.TheVariants.{NotEnabled, Memory}
use Rattle.mw_world_file.specs.DeviceCalls.{cut_list, LedBy}
use Rattle.mw_world_file.specs.Devices.{disk_under}
use Rattle.mw_world.specs.Files.State.{File, entries_at}
use Rattle.mw_world_file.specs.Openings.{CameOfBytes}
use Rattle.mw_world.specs.Files.Calls.{place_for, suits, fails_on, device_calls}
use Rattle.mw_world.specs.Files.Restarts.{takes, may_find, may_fail, opened_file, doubt_if, is_whole_seal}
use Rattle.mw_world_file.specs.Books.{Represents, quota_of, places_of_file}

-- how many device calls a call makes about a place: none if the place doesn't suit it or the file has failed
abbrev pub calls_at : Call → File → ℕ → ℕ → ℕ
calls_at call file places place = if suits call file places place && not (fails_on call file) then device_calls call (entries_at file place) else 0

-- the place of the call that was under way
abbrev pub cut_place : File → ℕ → Cut → ℕ
cut_place file places cut = place_for cut.call file places cut.slot

-- how many device calls that call makes
abbrev pub cut_calls : File → ℕ → Cut → ℕ
cut_calls file places cut = calls_at cut.call file places (cut_place file places cut)

-- the call may have made as many device calls as the cut says
abbrev pub may_be_made : File → ℕ → Option Cut → Bool
may_be_made file places None = true
may_be_made file places (Some cut) = nat_le cut.made (cut_calls file places cut)

-- the change in doubt after all stopped: the one that was being sealed, if a device call of the seal was made, else the
-- one from before
abbrev pub doubt_left : File → ℕ → Option Cut → List Entry
doubt_left file places None = file.doubt
doubt_left file places (Some cut) = doubt_if cut.call file.doubt cut.made (entries_at file (cut_place file places cut))

-- the change was sealed to the end of the call
abbrev pub is_sealed_left : File → ℕ → Option Cut → Bool
is_sealed_left file places None = false
is_sealed_left file places (Some cut) = is_whole_seal cut.call cut.made (cut_calls file places cut)

-- a prepare that was under way is for a well-formed change of a tenant with `words` words
abbrev pub PreparesChange : ℕ → Option Cut → Type 0
PreparesChange words None = Unit {0}
PreparesChange words (Some cut) = cut.call ≡ PrepareCall → IsTrue (is_change words cut.entries.items)

-- how many device calls of the call under way were made; 0 if none was under way
abbrev pub made_of : Option Cut → ℕ
made_of None = 0
made_of (Some cut) = cut.made

-- A crash may leave this image of a disk. It has the torn bytes at places that were written and not synced.
pub record IsTornImage (disk : Disk) (torn image : List ℕ) : Type 0 where
  pub may : MayLeave (memory_facts disk) image
  pub tears : Tears (unsynced disk.log) torn (length torn) (memory_facts disk).reads image

-- the disk, scripted to stop after `made` more device calls
abbrev pub until : Disk → ℕ → Disk
until disk made = record disk { stop = Some (sooner disk.stop made) }

-- The disk when all stopped. It is this disk if no device call was under way. Else the device calls of the call under way led to
-- it, from this disk with a stop after just as many of them as were made.
pub record IsCutDisk (disk : Disk) (made : ℕ) (calls : List DeviceCall) (stopped : Disk) : Type 0 where
  pub same : made ≡ 0 → stopped ≡ disk
  pub well : Bool
  pub led : 1 ≤ made → LedBy calls well (until disk made) stopped

-- These torn bytes make this image of that disk.
pub record IsCutImage (disk : Disk) (made : ℕ) (calls : List DeviceCall) (torn image : List ℕ) : Type 0 where
  pub stopped : Disk
  pub is_stopped : IsCutDisk disk made calls stopped
  pub tears : Tears (unsynced stopped.log) torn (length torn) (memory_facts stopped).reads image

-- Exactly `made` device calls went well since. No other was made, or one more was made and failed.
abbrev pub RanJust : ℕ → Facts → Facts → Type 0
RanJust made old new = Good made old new ⊎ ((calls : ℕ) × (bad : Bad calls old new) × (bad.well ≡ made))

-- This image is left of a disk after all stopped. A crash leaves it of the disk at the stop: of this disk itself if no
-- device call was made since, else of one that came of it by exactly `made` device calls and then stopped.
pub record IsLeftOf (disk : Disk) (made : ℕ) (torn image : List ℕ) : Type 0 where
  pub stopped : Disk
  pub same : made ≡ 0 → stopped ≡ disk
  pub ran : 1 ≤ made → RanJust made (memory_facts (until disk made)) (memory_facts stopped)
  pub later : Later (memory_facts disk) (memory_facts stopped)
  pub image_is : IsTornImage stopped torn image

-- A start may find these bytes of the book's file, with these torn bytes. They represent these words, and are left of
-- the book's disk by just the device calls of the call under way.
pub record IsLeft (old : SimulatedFile) (file : File) (cut : Option Cut) (torn words image : List ℕ) : Type 0 where
  pub made : may_be_made file (quota_of old) cut ≡ true
  pub has : file_words image ≡ Some words
  pub found : may_find (is_sealed_left file (quota_of old) cut) file.contents (doubt_left file (quota_of old) cut) words ≡ true
  pub left : IsLeftOf (disk_under old.device) (made_of cut) torn image
  pub exact : IsCutImage (disk_under old.device) (made_of cut) (cut_list old cut) torn image

-- The start found bytes that it may find, and opened them; one of the opening's device calls may fail so. The new book,
-- with this quota, is that of the file after the opening, with as many places as before, on a disk that the opening
-- made of these bytes. The flag says whether the change in doubt was found.
pub record IsRestarted (old : SimulatedFile) (file : File) (cut : Option Cut) (torn : List ℕ) (fails_at : Option ℕ) (quota : ℕ) (new : SimulatedFile) (took : Bool) : Type 0 where
  pub image : List ℕ
  pub words : List ℕ
  pub left : IsLeft old file cut torn words image
  pub fails : may_fail (open_calls image) fails_at ≡ true
  pub count : quota_of new ≡ quota
  pub has : places_of_file new ≡ places_of_file old
  pub long : length new.contents.items ≡ length old.contents.items
  pub shows : Represents new (opened_file words fails_at)
  pub came : CameOfBytes image words fails_at (disk_under new.device)
  pub taken : took ≡ takes file.contents (doubt_left file (quota_of old) cut) words

-- The opening of bytes that the start may find makes no device call with the number that must fail.
pub record CannotStart (old : SimulatedFile) (file : File) (cut : Option Cut) (torn : List ℕ) (fails_at : Option ℕ) : Type 0 where
  pub image : List ℕ
  pub words : List ℕ
  pub left : IsLeft old file cut torn words image
  pub fails : may_fail (open_calls image) fails_at ≡ false

-- How a start ends, for each result, and for every file that the book represents. It can't be if the call under way
-- makes fewer device calls, or if the opening can't fail so.
abbrev pub Restarts : SimulatedFile → Option Cut → List ℕ → Option ℕ → ℕ → Result (SimulatedFile × Bool) BookFault → Type 0
Restarts old cut torn fails_at quota (Ok started) = (file : File) → Represents old file → IsRestarted old file cut torn fails_at quota started.0 started.1
Restarts old cut torn fails_at quota (Err NotEnabled) = (file : File) → Represents old file → (may_be_made file (quota_of old) cut ≡ false) ⊎ CannotStart old file cut torn fails_at
Restarts old cut torn fails_at quota (Err Memory) = Unit {0}
