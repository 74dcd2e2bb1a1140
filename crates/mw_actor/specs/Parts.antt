-- Divides the points of a request's program among the functions of the code, and defines the next step in each part.
-- Used by: actor/asks.rt. No law is about it: change it with src/actor/asks.rt.
use Rattle.std.specs.Prelude.{Bool, true, false, cond, Some, None}
use Rattle.std.specs.declared.option.Option.{Option}
use Rattle.mw_look.specs.declared.steps.Op.{Op}
use Rattle.mw_look.specs.Steps.{op_of}
use Rattle.mw_actor.specs.declared.points.Point.{Point}
use Rattle.mw_actor.specs.declared.points.Point.TheVariants.{Read, ReadDoor, Admit, ScanGate, Claim, FillStatus, FillCount, FillAddr, FillExpected, FillNew, Prepare, ReadTargetStatus, Inspect, AnnounceRow, Plant, ReadOtherRow, ConfirmAttempt, ReadDirtyGate, ConfirmDirty, DecideYes, DecideNo, CheckThenResolve, Resolve, ReadOtherGate, PinOther, ReadCount, ReadAddr, ReadExpected, ReadNew, Seal, SweepWord, Release, Clean, SweepRow, SweepConfirm, SweepResolve, Settle, Cancel, Unpin, FreeSlot, LowerDoor, GiveUp, Replied}
use Rattle.mw_actor.specs.ActorState.{ActorState}
use Rattle.mw_actor.specs.Asks.{asks}

-- A part of a request's program.
pub data Part : Type 0 where
  -- the request is a read
  Reading : Part
  -- a change finds a slot and is written into it
  Admitting : Part
  -- the request looks at the words of an open change, and holds them one by one
  Holding : Part
  -- the request takes a change on by its status and its file
  Deciding : Part
  -- the request pins another's change and reads it
  Helping : Part
  -- the request sweeps the words of a decided change
  Sweeping : Part
  -- the request gives back a slot and ends
  Leaving : Part

-- the part of a point
abbrev pub part_of : Point → Part
part_of (Read look) = Reading
part_of ReadDoor = Admitting
part_of (Admit from to) = Admitting
part_of (ScanGate slot saw_worn) = Admitting
part_of (Claim slot saw_worn from to) = Admitting
part_of (FillStatus own) = Admitting
part_of (FillCount own) = Admitting
part_of (FillAddr own entry) = Admitting
part_of (FillExpected own entry) = Admitting
part_of (FillNew own entry) = Admitting
part_of (Prepare own) = Admitting
part_of (Inspect task entry) = Holding
part_of (AnnounceRow task entry number) = Holding
part_of (Plant task entry number) = Holding
part_of (ReadOtherRow task entry attempt) = Holding
part_of (ConfirmAttempt task entry attempt other) = Holding
part_of (ReadDirtyGate task entry slot value) = Holding
part_of (ConfirmDirty task entry other value) = Holding
part_of (CheckThenResolve task entry attempt) = Holding
part_of (Resolve task entry attempt was_open) = Holding
part_of (ReadTargetStatus task) = Deciding
part_of (DecideYes task) = Deciding
part_of (DecideNo task entry value) = Deciding
part_of (Seal task) = Deciding
part_of (Settle task) = Deciding
part_of (Cancel task) = Deciding
part_of (ReadOtherGate task other) = Helping
part_of (PinOther task other from to) = Helping
part_of (ReadCount task) = Helping
part_of (ReadAddr task count) = Helping
part_of (ReadExpected task count addr) = Helping
part_of (ReadNew task count addr expected) = Helping
part_of (SweepWord task sweep entry) = Sweeping
part_of (Release task sweep entry) = Sweeping
part_of (Clean task entry value) = Sweeping
part_of (SweepRow task sweep entry attempt) = Sweeping
part_of (SweepConfirm task sweep entry attempt other) = Sweeping
part_of (SweepResolve task sweep entry attempt) = Sweeping
part_of (Unpin slot after) = Leaving
part_of (FreeSlot slot after) = Leaving
part_of (LowerDoor after) = Leaving
part_of (GiveUp own undecided) = Leaving
part_of (Replied reply) = Leaving

-- two parts are the same
abbrev pub same_part : Part → Part → Bool
same_part Reading Reading = true
same_part Admitting Admitting = true
same_part Holding Holding = true
same_part Deciding Deciding = true
same_part Helping Helping = true
same_part Sweeping Sweeping = true
same_part Leaving Leaving = true
same_part one other = false

-- the next step of a request that is in this part of its program; None: it is in another part
abbrev pub step_in : Part → ActorState → Option Op
step_in part actor = cond (same_part (part_of actor.point) part) (Some (op_of (asks actor))) None
