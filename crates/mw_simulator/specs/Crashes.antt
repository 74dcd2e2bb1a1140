-- Defines what a crash in the middle of a call on a tenant's file leaves of the simulated file.
-- Used by: src/world/calls.rt, src/world/events.rt.
use Rattle.std.specs.Prelude.{ℕ, ◌≡◌, true, Option, Some, Result, Ok}
use Rattle.mw_memory_disk.specs.Memory.{memory_facts}
use Rattle.mw_disk.specs.Runs.{LeavesOnly}
use Rattle.mw_world_file.specs.declared.simulated_file.SimulatedFile.{SimulatedFile}
use Rattle.mw_world.specs.Files.Crashes.{IsFileOfEither}
use Rattle.mw_world_file.specs.Devices.{disk_under}
use Rattle.mw_world.specs.declared.config.Config.{Config}
use Rattle.mw_world.specs.declared.events.Event.{Event}
use Rattle.mw_world.specs.declared.events.Event.TheVariants.{File as IsFile}
use Rattle.mw_world.specs.declared.events.Interrupted.{Interrupted}
use Rattle.mw_world.specs.Definition.Restarts.{doubt_then, may_interrupt, under_way}
use Rattle.mw_world.specs.Definition.State.{State}
use Rattle.mw_simulator.specs.declared.faults.WorldFault.{WorldFault}
use Rattle.mw_simulator.specs.declared.world.World.{World}
use Rattle.mw_simulator.specs.UnchangedParts.{book_at, served_by}

-- a stop in the middle of a worker's call on a file, after `made` of its device calls
abbrev pub stop_in_call : ℕ → ℕ → Option Interrupted
stop_in_call worker made = Some (record { worker = worker; made = made })

-- A crash at any moment since the call began left a file of the words before the call, or of these words with the
-- change in doubt put over them. There is a number of device calls after which the call may be interrupted, and the
-- change is the one that is then in doubt: the change that the call seals, if it makes a device call for that, else the
-- change that was in doubt before.
pub record IsCrashSafe (config : Config) (state : State) (worker tenant : ℕ) (old new : SimulatedFile) : Type 0 where
  pub made : ℕ
  pub may : may_interrupt config state tenant (stop_in_call worker made) ≡ true
  pub moments : LeavesOnly (memory_facts (disk_under old.device)) (memory_facts (disk_under new.device))
      (IsFileOfEither (state.tenant_states tenant).file.contents (doubt_then (state.tenant_states tenant).file (under_way config state (stop_in_call worker made))))

-- Each call on a tenant's file is crash-safe so, if it succeeds as an event, whether one of its device calls failed or
-- none did. Nothing is said of other events. A start opens each file on a new disk, and `Images` says what a crash
-- leaves of it. The others make no device call.
abbrev pub CrashesDoNoHarm : World → World → State → Event → Result (Unit {0}) WorldFault → Type 0
CrashesDoNoHarm old new state (IsFile worker outcome) (Ok x) =
    (tenant : ℕ) (was now : SimulatedFile) → served_by old worker ≡ Some tenant → book_at old tenant ≡ Some was → book_at new tenant ≡ Some now
    → IsCrashSafe old.config state worker tenant was now
CrashesDoNoHarm old new state event result = Unit {0}
