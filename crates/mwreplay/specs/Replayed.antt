-- Defines what playing a schedule prints, and that the replies are those of the tenants' stores alone.
-- Used by: src/program.rt. Change it with docs/SCHEDULES, *What can be wrong*, which has the statuses.
use Rattle.std.specs.Prelude.{ℕ, ◌≡◌, ◌≢◌, ◌<◌, ◌++◌, ◌⊎◌, Bool, List, [], Result, Ok, Err, Option}
use Rattle.std.specs.Io.KnownBytes.{Appends, Keeps}
use Rattle.mw_world.specs.declared.events.Event.{Event}
use Rattle.mw_world.specs.Claim.Headline.{IsExecution, IsRun, IsDurablyLinearizable}
use Rattle.mw_world.specs.Definition.Events.{WorldEvent}
use Rattle.mw_world.specs.Definition.State.{State, first_openings, new_world, tenants_of}
use Rattle.mw_world.specs.Definition.World.{replies_to}
use Rattle.mw_simulator.specs.Events.{AllTell, IsAfterRun}
use Rattle.mw_schedule.specs.declared.schedule.Schedule.{Schedule}
use Rattle.mw_schedule.specs.declared.schedule.ScheduleLine.{ScheduleLine}
use Rattle.mw_schedule.specs.Playable.{IsSchedule}
use Rattle.mwreplay.specs.declared.player.PlayFault.{PlayFault}
use Rattle.mwreplay.specs.declared.player.PlayFault.TheVariants as halt
use Rattle.mwreplay.specs.declared.player.Player.{Player}
use Rattle.mwreplay.specs.declared.reasons.Reason.{Reason}
use Rattle.mwreplay.specs.declared.program.ReplayFault.{ReplayFault}
use Rattle.mwreplay.specs.declared.program.ReplayFault.TheVariants.{CannotRead, NotPlain, Memory, Wrong, NotEnabled, LastNumber, DidNotArrive, Output}
use Rattle.mwreplay.specs.PlayerSteps.{ObeysAll}
use Rattle.mwreplay.specs.Printed.{replies_among, text_of, told_in}

-- the exit status of a fault
abbrev pub status_of : ReplayFault → ℕ
status_of (CannotRead error) = 1
status_of NotPlain = 1
status_of Memory = 1
status_of (Wrong number reason) = 2
status_of (NotEnabled number reason) = 3
status_of (LastNumber number) = 5
status_of (DidNotArrive number reason) = 4
status_of Output = 1

-- the fault of a line with this number that wasn't played, for this reason
abbrev pub fault_at : ℕ → PlayFault → Reason → ReplayFault
fault_at number halt.NotEnabled reason = NotEnabled number reason
fault_at number halt.LastNumber reason = LastNumber number
fault_at number halt.DidNotArrive reason = DidNotArrive number reason
fault_at number halt.Memory reason = Memory
fault_at number halt.Output reason = Output

-- how playing lines ended, without the number of the line that wasn't played and the reason
abbrev pub halt_of : Result (Unit {0}) (ℕ × PlayFault × Reason) → Result (Unit {0}) PlayFault
halt_of (Ok x) = Ok x
halt_of (Err stop) = Err stop.1

-- the exit status, by how the playing ended
abbrev pub status_after : Result (Unit {0}) ReplayFault → ℕ
status_after (Ok x) = 0
status_after (Err fault) = status_of fault

-- A schedule was played, to its end or to where that failed. What was written is the text of the run; at status 1 it is
-- a beginning of that text.
pub record Printed (claims : Bool) (schedule : Schedule) (before now : Option (List ℕ)) (status : ℕ) : Type 0 where
  -- what happened to the world, and the events in memory that the lines of the schedule ask for
  pub happened : List WorldEvent
  pub state : State
  pub played : IsExecution schedule.config (first_openings schedule.config) happened state
  pub events : List Event
  pub tell : AllTell events happened
  pub obeys : status ≡ 0 → ObeysAll schedule.lines.items events
  -- what was written, and the rest
  pub sent : List ℕ
  pub rest : List ℕ
  pub text : text_of schedule.config (told_in claims schedule.config happened) ≡ sent ++ rest
  pub whole : status ≢ 1 → rest ≡ []
  pub wrote : Appends before now sent
  -- The printed replies are, tenant by tenant, those that the run hands out. If numbers were left at every moment, as
  -- they are in short runs, the tenant is served as its store alone would serve it: these are the replies that its
  -- store hands out by its marks, which are legal.
  pub handed : (tenant : ℕ) → replies_among tenant (told_in claims schedule.config happened) ≡ replies_to schedule.config tenant (new_world schedule.config) happened
  pub alone : (tenant : ℕ) → tenant < tenants_of schedule.config → IsRun schedule.config (first_openings schedule.config) happened state
      → IsDurablyLinearizable schedule.config (first_openings schedule.config) happened state tenant

-- The schedule was played; or nothing was written, and the status isn't 0.
abbrev pub MayPrint : Bool → Schedule → Option (List ℕ) → Option (List ℕ) → ℕ → Type 0
MayPrint claims schedule before now status = Printed claims schedule before now status ⊎ (Keeps before now × (status ≢ 0))

-- Some schedule was played; or nothing was written, and the status isn't 0.
abbrev pub Replays : Bool → Option (List ℕ) → Option (List ℕ) → ℕ → Type 0
Replays claims before now status = ((schedule : Schedule) × IsSchedule schedule × Printed claims schedule before now status) ⊎ (Keeps before now × (status ≢ 0))

-- If a player's world is a new one of a schedule, the lines of that schedule were played.
abbrev pub PrintsAll : Player → List ScheduleLine → Option (List ℕ) → Option (List ℕ) → ℕ → Type 0
PrintsAll player lines before now status = (schedule : Schedule) → IsSchedule schedule → lines ≡ schedule.lines.items → player.world.config ≡ schedule.config
    → IsAfterRun player.world [] → Printed player.tells_claims schedule before now status
