-- Defines the label of each step of a request: what the step means for its target and its tenant's marks.
-- Used by: mw_law_runs, mw_law_store, mw_world_memory, mw_simulator, mw_law_threads.
use Rattle.std.specs.Prelude.{ℕ, Bool, true, false}
use Rattle.mw_words.specs.declared.statuses.Status.TheVariants.{YesDirty}
use Rattle.mw_words.specs.declared.replies.Reply.TheVariants.{Busy as SaysBusy, Fault as SaysFault}
use Rattle.mw_look.specs.declared.observations.Observation.{Observation}
use Rattle.mw_look.specs.declared.observations.Observation.TheVariants.{Won}
use Rattle.mw_look.specs.declared.points.Trail.{Trail}
use Rattle.mw_look.specs.declared.points.Trail.TheVariants.{Held as ByHeld, Planted as ByPlanted}
use Rattle.mw_look.specs.declared.points.After.{After as AfterRead}
use Rattle.mw_look.specs.declared.points.After.TheVariants.{Again, Answer}
use Rattle.mw_look.specs.declared.points.Point.{Point as ReadPoint}
use Rattle.mw_look.specs.declared.points.Point.TheVariants.{ReadDoor as DoorOfRead, ReadWord as WordOfRead, ReadStatus as StatusOfRead, RecheckWord as RecheckOfRead, Unpin as UnpinOfRead, FreeSlot as FreeOfRead, LowerDoor as LowerOfRead, Replied as RepliedOfRead}
use Rattle.mw_actor.specs.declared.points.Slot.{Slot}
use Rattle.mw_actor.specs.declared.points.Sweep.{Sweep}
use Rattle.mw_actor.specs.declared.points.Sweep.TheVariants.{Yes as SweepYes}
use Rattle.mw_actor.specs.declared.points.Point.{Point}
use Rattle.mw_actor.specs.declared.points.Point.TheVariants.{Read, ReadDoor, Admit, Claim, Inspect, DecideYes, DecideNo, Resolve, Release, Clean, FreeSlot, LowerDoor, GiveUp, Replied}
use Rattle.mw_actor.specs.ActorState.{ActorState, entry_of}
use Rattle.mw_world.specs.declared.step_labels.Phase.TheVariants.{Acquired, Written, Released}
use Rattle.mw_world.specs.declared.step_labels.StepLabel.{StepLabel}
use Rattle.mw_world.specs.declared.step_labels.StepLabel.TheVariants.{Nothing, Admitted, FoundBusy, FoundFault, Looked, Reserved, LookedBefore, Claimed, Decided, Refused, Moved, Freed, Lowered, GaveUp}

-- the door gave the reply: the request found the quota used up, or the fault
abbrev pub door_label : Point → StepLabel
door_label (Replied SaysBusy) = FoundBusy
door_label (Replied SaysFault) = FoundFault
door_label point = Nothing

-- the word that was inspected may refuse the change
abbrev pub inspect_label : Point → StepLabel
inspect_label (DecideNo task entry value) = Reserved
inspect_label point = Nothing

-- the exchange held the word for the change, if the change was found open
abbrev pub resolve_label : Bool → Slot → ℕ → StepLabel
resolve_label true target address = Moved target address Acquired
resolve_label false target address = Nothing

-- a held word got the change's new value, or its old value back
abbrev pub release_label : Sweep → Slot → ℕ → StepLabel
release_label SweepYes target address = Moved target address Written
release_label sweep target address = Moved target address Released

-- the request gave up; tells whether its reply is FAULT
abbrev pub give_up_label : Slot → Point → StepLabel
give_up_label own (Replied SaysFault) = GaveUp own true
give_up_label own point = GaveUp own false

-- a read found the fault in the door
abbrev pub read_door_label : ReadPoint → StepLabel
read_door_label (RepliedOfRead SaysFault) = FoundFault
read_door_label point = Nothing

-- a read found its value in the word itself
abbrev pub read_word_label : ReadPoint → StepLabel
read_word_label (RepliedOfRead reply) = Looked
read_word_label point = Nothing

-- a read loaded the status of the change that holds its word: its value may be decided by this
abbrev pub read_status_label : Trail → StepLabel
read_status_label (ByHeld slot seq) = Reserved
read_status_label (ByPlanted worker attempt row) = Nothing

-- a read has its value: for a held word it was decided at the load of the status; for an attempt it is decided now
abbrev pub answer_label : Trail → AfterRead → StepLabel
answer_label trail Again = Nothing
answer_label (ByHeld slot seq) (Answer value) = LookedBefore
answer_label (ByPlanted worker attempt row) (Answer value) = Looked

-- a read found that its word is unchanged, and has its value
abbrev pub recheck_label : Trail → ReadPoint → StepLabel
recheck_label trail (UnpinOfRead slot seq after) = answer_label trail after
recheck_label trail point = Nothing

-- the label of a step of a read, by its points before and after the step
abbrev pub read_label : ReadPoint → ReadPoint → StepLabel
read_label DoorOfRead after = read_door_label after
read_label WordOfRead after = read_word_label after
read_label (StatusOfRead trail) after = read_status_label trail
read_label (RecheckOfRead trail status expected new) after = recheck_label trail after
read_label (FreeOfRead slot seq next) after = Freed (record { slot = slot; seq = seq })
read_label (LowerOfRead next) after = Lowered
read_label point after = Nothing

-- the point of a read; of a change, any point
abbrev pub read_point : Point → ReadPoint
read_point (Read look) = look.point
read_point point = DoorOfRead

-- the label of an exchange that won
abbrev pub won_label : ActorState → Point → StepLabel
won_label actor (Admit from to) = Admitted
won_label actor (Claim slot saw_worn from to) = Claimed (record { slot = slot; seq = from.seq })
won_label actor (DecideYes task) = Decided task.target YesDirty
won_label actor (DecideNo task entry value) = Refused task.target entry value
won_label actor (Resolve task entry attempt was_open) = resolve_label was_open task.target (entry_of actor task entry).addr
won_label actor (Release task sweep entry) = release_label sweep task.target (entry_of actor task entry).addr
won_label actor (Clean task entry value) = Moved task.target (entry_of actor task entry).addr Released
won_label actor point = Nothing

-- the label of an exchange: nothing if it lost
abbrev pub exchange_label : ActorState → Point → Observation → StepLabel
exchange_label actor point Won = won_label actor point
exchange_label actor point observation = Nothing

-- the label of a step of a request, by its point before, its observation, and its point after
abbrev pub label_of : ActorState → Point → Observation → Point → StepLabel
label_of actor (Read look) observation after = read_label look.point (read_point after)
label_of actor ReadDoor observation after = door_label after
label_of actor (Inspect task entry) observation after = inspect_label after
label_of actor (FreeSlot slot next) observation after = Freed slot
label_of actor (LowerDoor next) observation after = Lowered
label_of actor (GiveUp own undecided) observation after = give_up_label own after
label_of actor point observation after = exchange_label actor point observation
