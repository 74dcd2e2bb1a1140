-- Groups the points of a request's program into stages, for the laws: what it holds there (pins, a slot), and what it will do
-- next.
-- Used by: mw_world, mw_law_runs, mw_law_store. A new point needs a stage here.
use Rattle.std.specs.Prelude.{ℕ, ◌≡◌, ◌+◌, ◌==◌, ◌≤◌, true, false, nat_lt, List, length}
use Rattle.mw_words.specs.declared.doors.Door.{Door}
use Rattle.mw_words.specs.declared.gates.Gate.{Gate}
use Rattle.mw_words.specs.declared.jobs.Entry.{Entry}
use Rattle.mw_words.specs.declared.statuses.Status.TheVariants.{Open}
use Rattle.mw_words.specs.declared.replies.Reply.{Reply}
use Rattle.mw_pool.specs.Moves.{Claims, Pins}
use Rattle.mw_look.specs.declared.observations.Observation.{Observation}
use Rattle.mw_look.specs.declared.observations.Observation.TheVariants.{SawDoor, SawGate, SawWord, SawStatus, Won, Lost, Filed}
use Rattle.mw_actor.specs.declared.points.Slot.{Slot}
use Rattle.mw_actor.specs.declared.points.Task.{Task}
use Rattle.mw_actor.specs.declared.points.After.{After}
use Rattle.mw_actor.specs.declared.points.After.TheVariants.{Work, GiveUp as ThenGiveUp, Reply as ThenReply}
use Rattle.mw_actor.specs.declared.points.Point.{Point}
use Rattle.mw_actor.specs.declared.points.Point.TheVariants.{Read, ReadDoor, Admit, ScanGate, Claim, FillStatus, FillCount, FillAddr, FillExpected, FillNew, Prepare, ReadTargetStatus, Inspect, AnnounceRow, Plant, ReadOtherRow, ConfirmAttempt, ReadDirtyGate, ConfirmDirty, DecideYes, DecideNo, CheckThenResolve, Resolve, ReadOtherGate, PinOther, ReadCount, ReadAddr, ReadExpected, ReadNew, Seal, SweepWord, Release, Clean, SweepRow, SweepConfirm, SweepResolve, Settle, Cancel, Unpin, FreeSlot, LowerDoor, GiveUp, Replied}
use Rattle.mw_actor.specs.ActorState.{ActorState, own_entries, entries_of, same_slot, is_alone, alone, held}

-- A stage of a request. Points that differ only in what they look at are in one stage.
pub data Stage : Type 0 where
  -- it is a read
  Reading : (tenant : ℕ) → Stage
  -- it loads its tenant's door, and holds nothing
  Outside : Stage
  -- it exchanges the door to be admitted
  Entering : (from to : Door) → Stage
  -- it is admitted, and looks for a slot
  Seeking : Stage
  -- it exchanges a gate to claim the slot
  Claiming : (slot : ℕ) (from to : Gate) → Stage
  -- it stores its change into the slot that it claimed, word by word
  WritingStatus : (own : Slot) → Stage
  WritingCount : (own : Slot) → Stage
  WritingAddr : (own : Slot) (entry : ℕ) → Stage
  WritingExpected : (own : Slot) (entry : ℕ) → Stage
  WritingNew : (own : Slot) (entry : ℕ) → Stage
  -- it calls its file to prepare the change
  Preparing : (own : Slot) → Stage
  -- it loads the target's status
  Checking : (task : Task) → Stage
  -- the target is open: it loads an entry's word
  Inspecting : (task : Task) (entry : ℕ) → Stage
  -- it makes an attempt to hold that word
  Holding : (task : Task) (entry : ℕ) → Stage
  -- each word of the target is held, and it decides the target
  Deciding : (task : Task) → Stage
  -- it works on the target in any other way
  Working : (task : Task) → Stage
  -- another change is in the way: it loads the gate of that change
  Nearing : (task : Task) (other : Slot) → Stage
  -- it pins that change
  Pinning : (task : Task) (other : Slot) (from to : Gate) → Stage
  -- it reads the entries of that change
  Fetching : (task : Task) → Stage
  -- it takes back a pin
  Leaving : (slot : Slot) (onward : After) → Stage
  -- the pin was the last one: it frees the slot
  Freeing : (slot : Slot) (onward : After) → Stage
  -- it counts the slot off the door
  Lowering : (onward : After) → Stage
  -- it gives up, and keeps its own pin
  GivingUp : (own : Slot) → Stage
  -- it has its reply
  Over : Stage

-- the stage of a point
abbrev pub stage : Point → Stage
stage (Read look) = Reading look.tenant
stage ReadDoor = Outside
stage (Admit from to) = Entering from to
stage (ScanGate slot saw_worn) = Seeking
stage (Claim slot saw_worn from to) = Claiming slot from to
stage (FillStatus own) = WritingStatus own
stage (FillCount own) = WritingCount own
stage (FillAddr own entry) = WritingAddr own entry
stage (FillExpected own entry) = WritingExpected own entry
stage (FillNew own entry) = WritingNew own entry
stage (Prepare own) = Preparing own
stage (ReadTargetStatus task) = Checking task
stage (Inspect task entry) = Inspecting task entry
stage (AnnounceRow task entry number) = Holding task entry
stage (Plant task entry number) = Holding task entry
stage (ReadOtherRow task entry attempt) = Working task
stage (ConfirmAttempt task entry attempt other) = Working task
stage (ReadDirtyGate task entry slot value) = Working task
stage (ConfirmDirty task entry other value) = Working task
stage (DecideYes task) = Deciding task
stage (DecideNo task entry value) = Working task
stage (CheckThenResolve task entry attempt) = Working task
stage (Resolve task entry attempt was_open) = Working task
stage (ReadOtherGate task other) = Nearing task other
stage (PinOther task other from to) = Pinning task other from to
stage (ReadCount task) = Fetching task
stage (ReadAddr task count) = Fetching task
stage (ReadExpected task count addr) = Fetching task
stage (ReadNew task count addr expected) = Fetching task
stage (Seal task) = Working task
stage (SweepWord task sweep entry) = Working task
stage (Release task sweep entry) = Working task
stage (Clean task entry value) = Working task
stage (SweepRow task sweep entry attempt) = Working task
stage (SweepConfirm task sweep entry attempt other) = Working task
stage (SweepResolve task sweep entry attempt) = Working task
stage (Settle task) = Working task
stage (Cancel task) = Working task
stage (Unpin slot onward) = Leaving slot onward
stage (FreeSlot slot onward) = Freeing slot onward
stage (LowerDoor onward) = Lowering onward
stage (GiveUp own undecided) = GivingUp own
stage (Replied reply) = Over

-- The property I holds of each stage to which a request goes after it gave back a pin.
abbrev pub Resumes : (Stage → Type 0) → After → Type 0
Resumes I (Work task) = (is_alone task ≡ true → I (Checking task)) × (is_alone task ≡ false → I (Fetching task))
Resumes I (ThenGiveUp own undecided) = I (GivingUp own)
Resumes I (ThenReply reply) = I Over

-- the task of a request that turns to another change
abbrev pub turned : Task → Slot → Task
turned task other = record { own = task.own; target = other }

-- The property I holds of each stage through which a request turns to another change.
abbrev pub TurnsTo : (Stage → Type 0) → Task → Slot → Type 0
TurnsTo I task other = (is_alone task ≡ true → Resumes I (Work (turned task other))) × (is_alone task ≡ false → I (Leaving task.target (Work (turned task other))))

-- The property I holds of each stage to which a request may go from a point of its work on a task.
pub record OnTask (I : Stage → Type 0) (task : Task) : Type 0 where
  pub checks : I (Checking task)
  pub works : I (Working task)
  pub nears : (other : Slot) → same_slot other task.own ≡ false → I (Nearing task other)
  pub turns_back : TurnsTo I task task.own
  pub ends : (reply : Reply) → is_alone task ≡ true → I (Leaving task.own (ThenReply reply))
  pub gives_up : is_alone task ≡ true → I (GivingUp task.own)
  pub leaves_and_gives_up : (undecided : Reply) → is_alone task ≡ false → I (Leaving task.target (ThenGiveUp task.own undecided))

-- The property I holds of each stage to which a request may go from its scan of the gates.
abbrev pub Scans : (Stage → Type 0) → Type 0
Scans I = I Seeking × ((slot : ℕ) (from to : Gate) → Claims from to → I (Claiming slot from to)) × ((reply : Reply) → I (Lowering (ThenReply reply)))

-- The property I holds of each stage to which a request may go from this stage. Its observation there is given, and so
-- are the entries of another's change that it has read afterwards.
abbrev pub Leads : (Stage → Type 0) → ActorState → List Entry → Stage → Observation → Type 0
Leads I actor others Outside observation = I Outside × ((from to : Door) → I (Entering from to)) × I Over
Leads I actor others (Entering from to) Won = I Seeking
Leads I actor others (Entering from to) Lost = I Outside
Leads I actor others Seeking observation = Scans I
Leads I actor others (Claiming slot from to) Won = I (WritingStatus (record { slot = slot; seq = from.seq }))
Leads I actor others (Claiming slot from to) Lost = Scans I
Leads I actor others (WritingStatus own) Won = I (WritingCount own)
Leads I actor others (WritingCount own) Won = I (WritingAddr own 0)
Leads I actor others (WritingAddr own entry) Won = I (WritingExpected own entry)
Leads I actor others (WritingExpected own entry) Won = I (WritingNew own entry)
Leads I actor others (WritingNew own entry) Won = (nat_lt (entry + 1) (length (own_entries actor)) ≡ true → I (WritingAddr own (entry + 1))) × (nat_lt (entry + 1) (length (own_entries actor)) ≡ false → I (Preparing own))
Leads I actor others (Preparing own) (Filed went_well) = (went_well ≡ true → I (Checking (alone own))) × (went_well ≡ false → I (GivingUp own))
Leads I actor others (Checking task) observation = (observation ≡ SawStatus Open → I (Inspecting task 0)) × OnTask I task
Leads I actor others (Inspecting task entry) observation =
    I (Inspecting task entry) × I (Holding task entry)
    × (observation ≡ SawWord (held task.target) → nat_lt (entry + 1) (length (entries_of actor task)) ≡ true → I (Inspecting task (entry + 1)))
    × (observation ≡ SawWord (held task.target) → nat_lt (entry + 1) (length (entries_of actor task)) ≡ false → I (Deciding task))
    × OnTask I task
Leads I actor others (Holding task entry) observation = I (Holding task entry) × OnTask I task
Leads I actor others (Deciding task) observation = I (Deciding task) × OnTask I task
Leads I actor others (Working task) observation = OnTask I task
Leads I actor others (Nearing task other) observation = I (Nearing task other) × I (Checking task) × ((from to : Gate) → Pins other.seq from to → I (Pinning task other from to))
Leads I actor others (Pinning task other from to) Won = TurnsTo I task other
Leads I actor others (Pinning task other from to) Lost = I (Checking task)
Leads I actor others (Fetching task) observation = I (Fetching task) × (1 ≤ length others → I (Checking task))
Leads I actor others (Leaving slot onward) (SawGate gate) = ((gate.pins == 1) ≡ true → I (Freeing slot onward)) × ((gate.pins == 1) ≡ false → Resumes I onward)
Leads I actor others (Freeing slot onward) Won = I (Lowering onward)
Leads I actor others (Lowering onward) (SawDoor door) = Resumes I onward
Leads I actor others (GivingUp own) (SawStatus status) = I Over
Leads I actor others now observation = I now
