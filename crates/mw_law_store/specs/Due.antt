-- Defines what the store alone (the reference model) must have of a request, by the request's point (program counter) and its
-- change's status.
-- Used by: specs/Refinement, mw_law_threads.
use Rattle.std.specs.Prelude.{Bool, true, false, List, Option, Some, None}
use Rattle.mw_words.specs.declared.jobs.Entry.{Entry}
use Rattle.mw_words.specs.declared.replies.Reply.{Reply}
use Rattle.mw_words.specs.declared.replies.Reply.TheVariants.{Val, Yes as SaysYes, No as SaysNo, Fault as SaysFault, Worn as SaysWorn}
use Rattle.mw_words.specs.declared.statuses.Status.{Status}
use Rattle.mw_words.specs.declared.statuses.Status.TheVariants.{Yes, No, DoneYes, DoneNo}
use Rattle.mw_look.specs.declared.points.After.{After as AfterRead}
use Rattle.mw_look.specs.declared.points.After.TheVariants.{Again, Answer}
use Rattle.mw_look.specs.declared.points.Point.{Point as ReadPoint}
use Rattle.mw_look.specs.declared.points.Point.TheVariants.{Unpin as UnpinOfRead, FreeSlot as FreeOfRead, LowerDoor as LowerOfRead, Replied as RepliedOfRead}
use Rattle.mw_actor.specs.declared.points.After.{After}
use Rattle.mw_actor.specs.declared.points.After.TheVariants.{Reply as ThenReply}
use Rattle.mw_actor.specs.declared.points.Point.{Point}
use Rattle.mw_actor.specs.declared.points.Point.TheVariants.{Read, ReadDoor, Admit, ScanGate, Claim, Unpin, FreeSlot, LowerDoor, Replied}
use Rattle.mw_actor.specs.ActorState.{entry_at}

-- What the store has of a request.
pub data Due : Type 0 where
  -- it has no reply and no change of its own; a slot is counted for it, or not
  Waits : (admitted : Bool) → Due
  -- it has a slot of its own, and the change there decides its reply
  Works : Due
  -- it has this reply
  Answers : (reply : Reply) → Due
  -- it ends because a number is used up; nothing is said of its reply
  Quits : Due

-- what is due of a request that has this reply
abbrev pub due_reply : Reply → Due
due_reply SaysWorn = Quits
due_reply reply = Answers reply

-- what is due after a pin is given back, by what follows
abbrev pub due_then : After → Due
due_then (ThenReply reply) = due_reply reply
due_then onward = Works

-- what is due when the door is lowered, by what follows; a change that found no slot still waits
abbrev pub due_lowering : After → Due
due_lowering (ThenReply SaysWorn) = Waits true
due_lowering onward = due_then onward

-- what is due of a read after its pin is given back, by what follows
abbrev pub due_after_read : AfterRead → Due
due_after_read Again = Waits false
due_after_read (Answer value) = Answers (Val value)

-- what is due at a point of a read
abbrev pub due_read : ReadPoint → Due
due_read (UnpinOfRead slot seq after) = due_after_read after
due_read (FreeOfRead slot seq after) = due_after_read after
due_read (LowerOfRead after) = due_after_read after
due_read (RepliedOfRead reply) = due_reply reply
due_read point = Waits false

-- what is due at a point
abbrev pub due : Point → Due
due (Read look) = due_read look.point
due ReadDoor = Waits false
due (Admit from to) = Waits false
due (ScanGate slot saw_worn) = Waits true
due (Claim slot saw_worn from to) = Waits true
due (Unpin slot onward) = due_then onward
due (FreeSlot slot onward) = due_then onward
due (LowerDoor onward) = due_lowering onward
due (Replied reply) = due_reply reply
due point = Works

-- the request has no change of its own and no reply
abbrev pub waits : Due → Bool
waits (Waits admitted) = true
waits is = false

-- Whether a request is about to lower the door: it is not; for the request whose slot it freed last; or for its own, which found
-- no slot.
pub data Lowering : Type 0 where
  Elsewhere : Lowering
  Retiring : Lowering
  Dropping : Lowering

-- why a request that goes on so lowers the door
abbrev pub lowers_then : After → Lowering
lowers_then (ThenReply SaysWorn) = Dropping
lowers_then onward = Retiring

-- whether a read is about to lower the door at this point
abbrev pub lowers_in_read : ReadPoint → Lowering
lowers_in_read (LowerOfRead after) = Retiring
lowers_in_read point = Elsewhere

-- whether a request is about to lower the door at this point
abbrev pub lowers : Point → Lowering
lowers (Read look) = lowers_in_read look.point
lowers (LowerDoor onward) = lowers_then onward
lowers point = Elsewhere

-- The reply to a change's request, if it is decided: by whether FAULT was decided for it, by the change's status and by its
-- entries. FAULT stays its reply, whatever becomes of the change.
abbrev pub told : Bool → Status → List Entry → Option Reply
told true status change = Some SaysFault
told false Yes change = Some SaysYes
told false DoneYes change = Some SaysYes
told false (No entry value) change = Some (SaysNo (entry_at change entry).addr value)
told false (DoneNo entry value) change = Some (SaysNo (entry_at change entry).addr value)
told false status change = None
