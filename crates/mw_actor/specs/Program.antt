-- Defines the program of a request (a state machine): where it goes from each of its points. It is the algorithm.
-- Used by: many crates from mw_world on, actor.rt, actor/moves.rt. A new point needs a case here and in Asks, and the laws
-- above must be proved again.
use Rattle.std.specs.Prelude.{ℕ, false, Some, None}
use Rattle.std.specs.declared.option.Option.{Option}
use Rattle.mw_words.specs.declared.replies.Reply.{Reply}
use Rattle.mw_look.specs.declared.observations.Observation.{Observation}
use Rattle.mw_look.specs.declared.observations.Observation.TheVariants.{SawDoor, SawGate, SawWord, SawStatus, SawRow, SawNumber, Won, Lost, Filed}
use Rattle.mw_look.specs.Program.{tells as read_tells, replied as read_replied}
use Rattle.mw_actor.specs.declared.points.Sweep.TheVariants.{DoneYes as SweepDoneYes}
use Rattle.mw_actor.specs.declared.points.Point.{Point}
use Rattle.mw_actor.specs.declared.points.Point.TheVariants.{Read, ReadDoor, Admit, ScanGate, Claim, FillStatus, FillCount, FillAddr, FillExpected, FillNew, Prepare, ReadTargetStatus, Inspect, AnnounceRow, Plant, ReadOtherRow, ConfirmAttempt, ReadDirtyGate, ConfirmDirty, DecideYes, DecideNo, CheckThenResolve, Resolve, ReadOtherGate, PinOther, ReadCount, ReadAddr, ReadExpected, ReadNew, Seal, SweepWord, Release, Clean, SweepRow, SweepConfirm, SweepResolve, Settle, Cancel, Unpin, FreeSlot, LowerDoor, GiveUp, Replied}
use Rattle.mw_actor.specs.ActorState.{ActorState, row_slot}
use Rattle.mw_actor.specs.Admission.{door_read, next_gate, gate_scanned, next_fill, prepared}
use Rattle.mw_actor.specs.RequestEnds.{resumed, unpinned, gave_up}
use Rattle.mw_actor.specs.Help.{turns_to, other_gate_read, count_read, addr_read, expected_read, new_read, others_read}
use Rattle.mw_actor.specs.Inspection.{status_read, inspected, attempt_confirmed, dirty_gate_read, dirty_confirmed, is_open}
use Rattle.mw_actor.specs.ReleasePhase.{filed, next_sweep, swept, sweep_confirmed}

-- Where a change goes from each point, by its observation there and the worker's next attempt number. At any other
-- observation it stays.
abbrev pub changes : ActorState → ℕ → Point → Observation → Point
-- it finds a slot and is written into it
changes actor next ReadDoor (SawDoor door) = door_read actor next door
changes actor next (Admit from to) Won = ScanGate 0 false
changes actor next (Admit from to) Lost = ReadDoor
changes actor next (ScanGate slot saw_worn) (SawGate gate) = gate_scanned actor slot saw_worn gate
changes actor next (Claim slot saw_worn from to) Won = FillStatus (record { slot = slot; seq = from.seq })
changes actor next (Claim slot saw_worn from to) Lost = next_gate actor slot saw_worn
changes actor next (FillStatus own) Won = FillCount own
changes actor next (FillCount own) Won = FillAddr own 0
changes actor next (FillAddr own entry) Won = FillExpected own entry
changes actor next (FillExpected own entry) Won = FillNew own entry
changes actor next (FillNew own entry) Won = next_fill actor own entry
changes actor next (Prepare own) (Filed went_well) = prepared own went_well
-- it looks at the words of an open change, and holds them one by one
changes actor next (ReadTargetStatus task) (SawStatus status) = status_read task status
changes actor next (Inspect task entry) (SawWord word) = inspected actor next task entry word
changes actor next (AnnounceRow task entry number) Won = Plant task entry number
changes actor next (Plant task entry number) Won = CheckThenResolve task entry (record { worker = actor.worker; number = number })
changes actor next (Plant task entry number) Lost = ReadTargetStatus task
changes actor next (ReadOtherRow task entry attempt) (SawRow row) = ConfirmAttempt task entry attempt (row_slot row)
changes actor next (ConfirmAttempt task entry attempt other) (SawWord word) = attempt_confirmed task entry attempt other word
changes actor next (ReadDirtyGate task entry slot value) (SawGate gate) = dirty_gate_read task entry slot value gate
changes actor next (ConfirmDirty task entry other value) (SawWord word) = dirty_confirmed task other value word
changes actor next (DecideYes task) Won = ReadTargetStatus task
changes actor next (DecideYes task) Lost = ReadTargetStatus task
changes actor next (DecideNo task entry value) Won = ReadTargetStatus task
changes actor next (DecideNo task entry value) Lost = ReadTargetStatus task
changes actor next (CheckThenResolve task entry attempt) (SawStatus status) = Resolve task entry attempt (is_open status)
changes actor next (Resolve task entry attempt was_open) Won = ReadTargetStatus task
changes actor next (Resolve task entry attempt was_open) Lost = ReadTargetStatus task
-- it pins another's change and reads it
changes actor next (ReadOtherGate task other) (SawGate gate) = other_gate_read task other gate
changes actor next (PinOther task other from to) Won = turns_to task other
changes actor next (PinOther task other from to) Lost = ReadTargetStatus task
changes actor next (ReadCount task) (SawNumber count) = count_read task count
changes actor next (ReadAddr task count) (SawNumber addr) = addr_read task count addr
changes actor next (ReadExpected task count addr) (SawNumber expected) = expected_read task count addr expected
changes actor next (ReadNew task count addr expected) (SawNumber new) = new_read actor task count addr expected new
-- it sweeps the words of a decided change
changes actor next (Seal task) (Filed went_well) = filed task went_well
changes actor next (SweepWord task sweep entry) (SawWord word) = swept actor task sweep entry word
changes actor next (Release task sweep entry) Won = next_sweep actor task sweep entry
changes actor next (Release task sweep entry) Lost = next_sweep actor task sweep entry
changes actor next (Clean task entry value) Won = next_sweep actor task SweepDoneYes entry
changes actor next (Clean task entry value) Lost = next_sweep actor task SweepDoneYes entry
changes actor next (SweepRow task sweep entry attempt) (SawRow row) = SweepConfirm task sweep entry attempt (row_slot row)
changes actor next (SweepConfirm task sweep entry attempt other) (SawWord word) = sweep_confirmed actor task sweep entry attempt other word
changes actor next (SweepResolve task sweep entry attempt) Won = next_sweep actor task sweep entry
changes actor next (SweepResolve task sweep entry attempt) Lost = next_sweep actor task sweep entry
changes actor next (Settle task) (Filed went_well) = filed task went_well
changes actor next (Cancel task) (Filed went_well) = ReadTargetStatus task
-- it gives back a slot and ends
changes actor next (Unpin slot after) (SawGate gate) = unpinned slot after gate
changes actor next (FreeSlot slot after) Won = LowerDoor after
changes actor next (LowerDoor after) (SawDoor door) = resumed after
changes actor next (GiveUp own undecided) (SawStatus status) = Replied (gave_up actor undecided status)
changes actor next point observation = point

-- Where a request goes from each point: a read by its own program, a change by this one.
abbrev pub goes : ActorState → ℕ → Point → Observation → Point
goes actor next (Read look) observation = Read (read_tells look observation)
goes actor next point observation = changes actor next point observation

-- a request after it was told its observation and the worker's next attempt number
abbrev pub tells : ActorState → Observation → ℕ → ActorState
tells actor observation next = record actor { others = others_read actor.others actor.point observation; point = goes actor next actor.point observation }

-- the reply at a point, if it is decided there
abbrev pub reply_at : Point → Option Reply
reply_at (Read look) = read_replied look
reply_at (Replied reply) = Some reply
reply_at point = None

-- the reply to a request, if it has one
abbrev pub replied : ActorState → Option Reply
replied actor = reply_at actor.point
