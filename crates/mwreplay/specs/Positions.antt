-- Defines where a worker of a world is: absent, idle, at a step, or with a reply. Used by: src/reasons.rt.
use Rattle.std.specs.Prelude.{ℕ, nat_lt, if◌then◌else◌, Option, Some, None}
use Rattle.mw_words.specs.declared.replies.Reply.{Reply}
use Rattle.mw_look.specs.Steps.{op_of}
use Rattle.mw_actor.specs.ActorState.{ActorState}
use Rattle.mw_actor.specs.Asks.{asks}
use Rattle.mw_actor.specs.Program.{replied}
use Rattle.mw_world.specs.declared.config.Config.{Config}
use Rattle.mw_world.specs.Definition.State.{State}
use Rattle.mw_schedule.specs.declared.steps.StepKind.{StepKind}
use Rattle.mw_schedule.specs.Steps.{kind_of}
use Rattle.mwreplay.specs.declared.reasons.Position.{Position}
use Rattle.mwreplay.specs.declared.reasons.Position.TheVariants as position

-- where a request with or without a reply is, if its next step is of this kind
abbrev pub position_by : StepKind → Option Reply → Position
position_by next None = position.At next
position_by next (Some reply) = position.Replied

-- where a request is: it has its reply, or is at its next step
abbrev pub position_of_request : ActorState → Position
position_of_request actor = position_by (kind_of (op_of (asks actor))) (replied actor)

-- where a worker is that may have a request
abbrev pub position_of_worker : Option ActorState → Position
position_of_worker None = position.Idle
position_of_worker (Some actor) = position_of_request actor

-- where the worker of this number is, if there is one
abbrev pub position_in : Config → State → ℕ → Position
position_in config state worker = if nat_lt worker config.workers then position_of_worker (state.worker_states worker).actor else position.Absent
