-- Defines what a crash in the middle of a call leaves of a tenant's file.
-- Used by: src/calls.rt, mw_simulator.
use Rattle.std.specs.Prelude.{ℕ, ◌≡◌, ◌⊎◌, List, Some, Result, Ok, Err}
use Rattle.mw_words.specs.declared.jobs.Entry.{Entry}
use Rattle.mw_words.specs.Change.{put}
use Rattle.mw_memory_disk.specs.Memory.{memory_facts}
use Rattle.mw_disk.specs.Runs.{LeavesOnly}
use Rattle.mw_record.specs.Damages.{file_words}
use Rattle.mw_look.specs.declared.steps.Call.{Call}
use Rattle.mw_look.specs.declared.steps.Call.TheVariants.{Seal as SealCall}
use Rattle.mw_world.specs.Files.Crashes.{IsFileOfEither, at_stake}
use Rattle.mw_world_file.specs.declared.faults.BookFault.{BookFault}
use Rattle.mw_world_file.specs.declared.simulated_file.SimulatedFile.{SimulatedFile}
use Rattle.mw_world_file.specs.Books.{Represents, quota_of}
use Rattle.mw_world.specs.Files.Calls.{place_for}
use Rattle.mw_world_file.specs.Devices.{disk_under}
use Rattle.mw_world.specs.Files.State.{File, entries_at}

-- A crash at any moment since the call on this book began left a file of the words before the call, or of these with
-- the change at stake put over them.
abbrev pub IsCrashSafe : SimulatedFile → Call → ℕ → SimulatedFile → Type 0
IsCrashSafe old call slot new = (file : File) → Represents old file
    → LeavesOnly (memory_facts (disk_under old.device)) (memory_facts (disk_under new.device))
    (IsFileOfEither file.contents (at_stake call file (place_for call file (quota_of old) slot)))

-- Each call that made a new book is crash-safe so, whether a device call of it failed or none did. Nothing is said of a
-- call that made none.
abbrev pub CrashesDoNoHarm : SimulatedFile → Call → ℕ → Result SimulatedFile BookFault → Type 0
CrashesDoNoHarm old call slot (Ok new) = IsCrashSafe old call slot new
CrashesDoNoHarm old call slot (Err fault) = Unit {0}
