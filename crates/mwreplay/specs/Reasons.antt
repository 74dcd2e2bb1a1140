-- Defines the reason that is told of a line which was not played to its end.
-- Used by: src/reasons.rt, src/player.rt, src/program.rt. A new Reason needs its row in docs/SCHEDULES.
use Rattle.std.specs.Prelude.{ℕ, ◌≡◌, ◌++◌, List, ◌∷◌}
use Rattle.mw_world.specs.declared.config.Config.{Config}
use Rattle.mw_world.specs.Definition.State.{State}
use Rattle.mw_schedule.specs.declared.schedule.Command.{Command}
use Rattle.mw_schedule.specs.declared.schedule.Command.TheVariants as command
use Rattle.mw_schedule.specs.declared.schedule.ScheduleLine.{ScheduleLine}
use Rattle.mw_schedule.specs.declared.steps.StepKind.{StepKind}
use Rattle.mw_schedule.specs.declared.steps.StepKind.TheVariants as kind
use Rattle.mw_simulator.specs.declared.world.World.{World}
use Rattle.mw_simulator.specs.Representation.{Represents}
use Rattle.mwreplay.specs.declared.player.Player.{Player}
use Rattle.mwreplay.specs.declared.reasons.Asked.{Asked}
use Rattle.mwreplay.specs.declared.reasons.Asked.TheVariants as asked
use Rattle.mwreplay.specs.declared.reasons.Position.{Position}
use Rattle.mwreplay.specs.declared.reasons.Position.TheVariants as position
use Rattle.mwreplay.specs.declared.reasons.Reason.{Reason}
use Rattle.mwreplay.specs.declared.reasons.Reason.TheVariants as reason
use Rattle.mwreplay.specs.Positions.{position_in}
use Rattle.mwreplay.specs.RestartReasons.{restart_reason}

-- the reason for a call on the file, by the kind of the worker's next step
abbrev pub reason_of_file : ℕ → StepKind → Reason
reason_of_file worker kind.Load = reason.AtStep worker kind.Load
reason_of_file worker (kind.Change how) = reason.AtStep worker (kind.Change how)
reason_of_file worker (kind.File call) = reason.NoDeviceCall worker (kind.File call)

-- the reason for a line of a worker whose next step is of this kind
abbrev pub reason_of_step : ℕ → StepKind → Asked → Reason
reason_of_step worker next (asked.Come other) = reason.HasRequest worker next
reason_of_step worker next (asked.Step other) = reason.AtCall worker next
reason_of_step worker next (asked.File other) = reason_of_file worker next
reason_of_step worker next (asked.Going other) = reason.ManySteps worker next
reason_of_step worker next (asked.Restart why) = why

-- the reason for a line of a worker that is there
abbrev pub reason_at : ℕ → Asked → Position → Reason
reason_at worker line position.Absent = reason.NoWorker worker
reason_at worker line position.Idle = reason.NoRequest worker
reason_at worker line (position.At next) = reason_of_step worker next line
reason_at worker line position.Replied = reason.HasReply worker

-- The reason for a line in a world: it tells where the line's worker is.
abbrev pub reason_in : Config → State → Asked → Reason
reason_in config state (asked.Come worker) = reason_at worker (asked.Come worker) (position_in config state worker)
reason_in config state (asked.Step worker) = reason_at worker (asked.Step worker) (position_in config state worker)
reason_in config state (asked.File worker) = reason_at worker (asked.File worker) (position_in config state worker)
reason_in config state (asked.Going worker) = reason_at worker (asked.Going worker) (position_in config state worker)
reason_in config state (asked.Restart why) = why

-- What a line asks for is of the line's kind and worker. That of a restart has the reason that this world gives.
abbrev pub IsAsked : World → Command → Asked → Type 0
IsAsked world (command.Come worker tenant job) line = line ≡ asked.Come worker
IsAsked world (command.Step worker) line = line ≡ asked.Step worker
IsAsked world (command.File worker outcome) line = line ≡ asked.File worker
IsAsked world (command.Before worker next) line = line ≡ asked.Going worker
IsAsked world (command.To worker next) line = line ≡ asked.Going worker
IsAsked world (command.End worker) line = line ≡ asked.Going worker
IsAsked world (command.Restart stops) line = (state : State) → Represents world state → line ≡ asked.Restart (restart_reason world state stops.items)

-- The line with this number was not played to its end, and this is the reason: the one for what it asked for, in the world that
-- it left. The first world is the one before it.
pub record IsToldOf (now : Player) (lines : List ScheduleLine) (number : ℕ) (why : Reason) : Type 0 where
  pub before : List ScheduleLine
  pub line : ScheduleLine
  pub after : List ScheduleLine
  pub there : lines ≡ before ++ line ∷ after
  pub numbered : line.number ≡ number
  pub was : World
  pub what : Asked
  pub asks : IsAsked was line.command what
  pub told : (state : State) → Represents now.world state → why ≡ reason_in now.world.config state what
