-- A request gives up with FAULT only after a call on its file has failed. Used by: StepsByPoint, Calls, Turns.
use Rattle.std.specs.Prelude.{ℕ, ◌≡◌, ◌⊎◌, ◌+◌, ◌==◌, ◌&&◌, Bool, true, false, cond, nat_lt, nat_le, length, Option, Some, None}
use Rattle.std.proofs.Common.{refl, sym, ap, ◌∙◌, inl, inr}
use Rattle.mw_words.specs.declared.doors.Door.{Door}
use Rattle.mw_words.specs.declared.gates.Gate.{Gate}
use Rattle.mw_words.specs.declared.limits.TheConstants.{MAX_ENTRIES, MAX_VALUE, MAX_WORDS, WORN_NUMBER}
use Rattle.mw_words.specs.declared.replies.Reply.{Reply}
use Rattle.mw_words.specs.declared.replies.Reply.TheVariants.{Fault as SaysFault}
use Rattle.mw_words.specs.declared.statuses.Status.{Status}
use Rattle.mw_words.specs.declared.statuses.Status.TheVariants.{Draft, Open, YesDirty, Yes, No, DoneYes, DoneNo}
use Rattle.mw_words.specs.declared.words.Word.{Word}
use Rattle.mw_words.specs.declared.words.Word.TheVariants.{Plain, Planted, Held, Dirty}
use Rattle.mw_pool.specs.declared.doors.Admission.{Admission}
use Rattle.mw_pool.specs.declared.doors.Admission.TheVariants.{Fault as HasFailed, Busy as IsBusy, To}
use Rattle.mw_pool.specs.Moves.{after_admit, after_claim, after_pin}
use Rattle.mw_look.specs.declared.observations.Observation.{Observation}
use Rattle.mw_look.specs.declared.observations.Observation.TheVariants.{SawDoor, SawGate, SawRow, SawWord, SawStatus, SawNumber, Won, Lost, Filed}
use Rattle.mw_look.specs.Program.{same_word}
use Rattle.mw_actor.specs.declared.points.After.{After}
use Rattle.mw_actor.specs.declared.points.After.TheVariants.{Work, GiveUp as ThenGiveUp, Reply as ThenReply}
use Rattle.mw_actor.specs.declared.points.Attempt.{Attempt}
use Rattle.mw_actor.specs.declared.points.Point.{Point}
use Rattle.mw_actor.specs.declared.points.Point.TheVariants.{Read, ReadDoor, Admit, ScanGate, Claim, FillStatus, FillCount, FillAddr, FillExpected, FillNew, Prepare, ReadTargetStatus, Inspect, AnnounceRow, Plant, ReadOtherRow, ConfirmAttempt, ReadDirtyGate, ConfirmDirty, DecideYes, DecideNo, CheckThenResolve, Resolve, ReadOtherGate, PinOther, ReadCount, ReadAddr, ReadExpected, ReadNew, Seal, SweepWord, Release, Clean, SweepRow, SweepConfirm, SweepResolve, Settle, Cancel, Unpin, FreeSlot, LowerDoor, GiveUp, Replied}
use Rattle.mw_actor.specs.declared.points.Slot.{Slot}
use Rattle.mw_actor.specs.declared.points.Sweep.{Sweep}
use Rattle.mw_actor.specs.declared.points.Sweep.TheVariants.{Yes as SweepYes, DoneYes as SweepDoneYes, No as SweepNo, DoneNo as SweepDoneNo}
use Rattle.mw_actor.specs.declared.points.Task.{Task}
use Rattle.mw_actor.specs.ActorState.{ActorState, own_entries, entries_of, entry_of, is_alone, planted, same_slot}
use Rattle.mw_actor.specs.Admission.{admitted, claiming, next_gate, prepared, round_over}
use Rattle.mw_actor.specs.RequestEnds.{finishes, gave_up, resumed, works}
use Rattle.mw_actor.specs.Help.{helps, pinned, turns_to}
use Rattle.mw_actor.specs.Inspection.{attempt_met, attempts, dirty_seen, inspected, status_read}
use Rattle.mw_actor.specs.Program.{goes}
use Rattle.mw_actor.specs.ReleasePhase.{attempt_swept, dirty_swept, filed, held_swept, next_sweep, sweep_over, swept}
use Rattle.mw_law_store.specs.WorldFacts.{gives_fault, says_fault}

-- At this point a request doesn't give up with FAULT.
record IsQuiet (point : Point) : Type 0 where
  pub is : says_fault point ≡ false

quiet : {point : Point} → says_fault point ≡ false → IsQuiet point
quiet is = record { is = is }

if_quiet : (test : Bool) (one two : Point) → IsQuiet one → IsQuiet two → IsQuiet (cond test one two)
if_quiet true one two here there = here
if_quiet false one two here there = there

works_quiet : (task : Task) → IsQuiet (works task)
works_quiet task = if_quiet (is_alone task) _ _ (quiet refl) (quiet refl)

turns_quiet : (task : Task) (other : Slot) → IsQuiet (turns_to task other)
turns_quiet task other = if_quiet (is_alone task) _ _ (works_quiet (record { own = task.own; target = other })) (quiet refl)

helps_quiet : (task : Task) (other : Slot) → IsQuiet (helps task other)
helps_quiet task other = if_quiet (same_slot other task.own) _ _ (turns_quiet task task.own) (quiet refl)

door_quiet : (next : ℕ) (door : Door) (says : Admission) → IsQuiet (admitted next door says)
door_quiet next door HasFailed = quiet refl
door_quiet next door IsBusy = quiet refl
door_quiet next door (To to) = if_quiet (nat_lt next WORN_NUMBER) _ _ (quiet refl) (quiet refl)

round_quiet : (saw_worn : Bool) → IsQuiet (round_over saw_worn)
round_quiet saw_worn = if_quiet saw_worn _ _ (quiet refl) (quiet refl)

gate_quiet : (actor : ActorState) (slot : ℕ) (saw_worn : Bool) → IsQuiet (next_gate actor slot saw_worn)
gate_quiet actor slot saw_worn = if_quiet (nat_lt (slot + 1) actor.pool) _ _ (quiet refl) (round_quiet saw_worn)

claiming_quiet : (actor : ActorState) (slot : ℕ) (saw_worn : Bool) (gate : Gate) (found : Option Gate) → IsQuiet (claiming actor slot saw_worn gate found)
claiming_quiet actor slot saw_worn gate (Some to) = quiet refl
claiming_quiet actor slot saw_worn gate None = gate_quiet actor slot _

status_quiet : (task : Task) (status : Status) → IsQuiet (status_read task status)
status_quiet task Draft = quiet refl
status_quiet task Open = quiet refl
status_quiet task YesDirty = quiet refl
status_quiet task Yes = quiet refl
status_quiet task DoneYes = quiet refl
status_quiet task (No entry value) = quiet refl
status_quiet task (DoneNo entry value) = quiet refl

attempts_quiet : (task : Task) (entry next : ℕ) → IsQuiet (attempts task entry next)
attempts_quiet task entry next = if_quiet (nat_lt next WORN_NUMBER) _ _ (quiet refl) (if_quiet (is_alone task) _ _ (quiet refl) (quiet refl))

dirty_quiet : (task : Task) (entry slot value : ℕ) → IsQuiet (dirty_seen task entry slot value)
dirty_quiet task entry slot value = if_quiet (slot == task.target.slot) _ _ (quiet refl) (if_quiet (slot == task.own.slot) _ _ (helps_quiet task task.own) (quiet refl))

inspected_quiet : (actor : ActorState) (next : ℕ) (task : Task) (entry : ℕ) (word : Word) → IsQuiet (inspected actor next task entry word)
inspected_quiet actor next task entry (Plain value) = if_quiet (value == (entry_of actor task entry).expected) _ _ (attempts_quiet task entry next) (quiet refl)
inspected_quiet actor next task entry (Dirty slot value) = if_quiet (value == (entry_of actor task entry).expected) _ _ (dirty_quiet task entry slot value) (quiet refl)
inspected_quiet actor next task entry (Held slot seq) = if_quiet (same_slot (record { slot = slot; seq = seq }) task.target) _ _ (if_quiet (nat_lt (entry + 1) (length (entries_of actor task))) _ _ (quiet refl) (quiet refl)) (helps_quiet task (record { slot = slot; seq = seq }))
inspected_quiet actor next task entry (Planted worker number) = quiet refl

met_quiet : (task : Task) (entry : ℕ) (attempt : Attempt) (other : Slot) → IsQuiet (attempt_met task entry attempt other)
met_quiet task entry attempt other = if_quiet (same_slot other task.target) _ _ (quiet refl) (helps_quiet task other)

pinned_quiet : (task : Task) (other : Slot) (from : Gate) (found : Option Gate) → IsQuiet (pinned task other from found)
pinned_quiet task other from (Some to) = quiet refl
pinned_quiet task other from None = quiet refl

finishes_quiet : (task : Task) (reply : Reply) → IsQuiet (finishes task reply)
finishes_quiet task reply = if_quiet (is_alone task) _ _ (quiet refl) (quiet refl)

over_quiet : (actor : ActorState) (task : Task) (sweep : Sweep) → IsQuiet (sweep_over actor task sweep)
over_quiet actor task SweepYes = quiet refl
over_quiet actor task SweepDoneYes = finishes_quiet task _
over_quiet actor task SweepNo = quiet refl
over_quiet actor task (SweepDoneNo entry value) = finishes_quiet task _

next_quiet : (actor : ActorState) (task : Task) (sweep : Sweep) (entry : ℕ) → IsQuiet (next_sweep actor task sweep entry)
next_quiet actor task sweep entry = if_quiet (nat_lt (entry + 1) (length (entries_of actor task))) _ _ (quiet refl) (over_quiet actor task sweep)

held_quiet : (actor : ActorState) (task : Task) (sweep : Sweep) (entry : ℕ) (slot : Slot) → IsQuiet (held_swept actor task sweep entry slot)
held_quiet actor task SweepDoneYes entry slot = next_quiet actor task SweepDoneYes entry
held_quiet actor task SweepYes entry slot = if_quiet (same_slot slot task.target) _ _ (quiet refl) (next_quiet actor task SweepYes entry)
held_quiet actor task SweepNo entry slot = if_quiet (same_slot slot task.target) _ _ (quiet refl) (next_quiet actor task SweepNo entry)
held_quiet actor task (SweepDoneNo at value) entry slot = if_quiet (same_slot slot task.target) _ _ (quiet refl) (next_quiet actor task (SweepDoneNo at value) entry)

dirty_swept_quiet : (actor : ActorState) (task : Task) (sweep : Sweep) (entry slot value : ℕ) → IsQuiet (dirty_swept actor task sweep entry slot value)
dirty_swept_quiet actor task SweepDoneYes entry slot value = if_quiet (slot == task.target.slot) _ _ (quiet refl) (next_quiet actor task SweepDoneYes entry)
dirty_swept_quiet actor task SweepYes entry slot value = next_quiet actor task SweepYes entry
dirty_swept_quiet actor task SweepNo entry slot value = next_quiet actor task SweepNo entry
dirty_swept_quiet actor task (SweepDoneNo at found) entry slot value = next_quiet actor task (SweepDoneNo at found) entry

attempt_quiet : (actor : ActorState) (task : Task) (sweep : Sweep) (entry : ℕ) (attempt : Attempt) → IsQuiet (attempt_swept actor task sweep entry attempt)
attempt_quiet actor task SweepYes entry attempt = next_quiet actor task SweepYes entry
attempt_quiet actor task SweepDoneYes entry attempt = quiet refl
attempt_quiet actor task SweepNo entry attempt = quiet refl
attempt_quiet actor task (SweepDoneNo at value) entry attempt = quiet refl

swept_quiet : (actor : ActorState) (task : Task) (sweep : Sweep) (entry : ℕ) (word : Word) → IsQuiet (swept actor task sweep entry word)
swept_quiet actor task sweep entry (Plain value) = next_quiet actor task sweep entry
swept_quiet actor task sweep entry (Planted worker number) = attempt_quiet actor task sweep entry _
swept_quiet actor task sweep entry (Held slot seq) = held_quiet actor task sweep entry _
swept_quiet actor task sweep entry (Dirty slot value) = dirty_swept_quiet actor task sweep entry slot value

-- after its pin is given back, a request gives up with FAULT exactly if it was on the way to it
resumed_fault : (onward : After) → says_fault (resumed onward) ≡ gives_fault onward
resumed_fault (Work task) = (works_quiet task).is
resumed_fault (ThenGiveUp own SaysFault) = refl
resumed_fault (ThenGiveUp own undecided) = refl
resumed_fault (ThenReply reply) = refl

unpinned_fault : (test : Bool) (slot : Slot) (onward : After) → says_fault (cond test (FreeSlot slot onward) (resumed onward)) ≡ gives_fault onward
unpinned_fault true slot onward = refl
unpinned_fault false slot onward = resumed_fault onward

-- A request that gives up with FAULT was on the way to it, or has just observed that a call on its file failed.
record ByFault (before : Point) (observation : Observation) (after : Point) : Type 0 where
  pub then : says_fault after ≡ true → (says_fault before ≡ true) ⊎ (observation ≡ Filed false)

false_true : false ≡ true → ⊥
false_true e = cc

none : {before : Point} {observation : Observation} {after : Point} → IsQuiet after → ByFault before observation after
none calm = record { then = λ is. absurd (false_true (sym calm.is ∙ is)) }

as_before : {before : Point} {observation : Observation} {after : Point} → says_fault after ≡ says_fault before → ByFault before observation after
as_before same = record { then = λ is. inl (sym same ∙ is) }

after_call : (before : Point) (task : Task) (went_well : Bool) → ByFault before (Filed went_well) (filed task went_well)
after_call before task true = none (quiet refl)
after_call before task false = record { then = λ is. inr refl }

after_prepare : (before : Point) (own : Slot) (went_well : Bool) → ByFault before (Filed went_well) (prepared own went_well)
after_prepare before own true = none (quiet refl)
after_prepare before own false = record { then = λ is. inr refl }

fault_by : (actor : ActorState) (next : ℕ) (point : Point) (observation : Observation) → ByFault point observation (goes actor next point observation)
fault_by actor next (Read look) observation = none (quiet refl)
fault_by actor next ReadDoor (SawDoor door) = none (door_quiet next door (after_admit door actor.quota))
fault_by actor next (Admit from to) Won = none (quiet refl)
fault_by actor next (Admit from to) Lost = none (quiet refl)
fault_by actor next (ScanGate slot saw_worn) (SawGate gate) = none (claiming_quiet actor slot saw_worn gate (after_claim gate))
fault_by actor next (Claim slot saw_worn from to) Won = none (quiet refl)
fault_by actor next (Claim slot saw_worn from to) Lost = none (gate_quiet actor slot saw_worn)
fault_by actor next (FillNew own entry) Won = none (if_quiet (nat_lt (entry + 1) (length (own_entries actor))) _ _ (quiet refl) (quiet refl))
fault_by actor next (Prepare own) (Filed went_well) = after_prepare (Prepare own) own went_well
fault_by actor next (ReadTargetStatus task) (SawStatus status) = none (status_quiet task status)
fault_by actor next (Inspect task entry) (SawWord word) = none (inspected_quiet actor next task entry word)
fault_by actor next (ConfirmAttempt task entry attempt other) (SawWord word) = none (if_quiet (same_word word (planted attempt)) _ _ (met_quiet task entry attempt other) (quiet refl))
fault_by actor next (ReadDirtyGate task entry slot value) (SawGate gate) = none (if_quiet (gate.taken && nat_le 1 gate.pins) _ _ (quiet refl) (quiet refl))
fault_by actor next (ConfirmDirty task entry other value) (SawWord word) = none (if_quiet (same_word word (Dirty other.slot value)) _ _ (helps_quiet task other) (quiet refl))
fault_by actor next (ReadOtherGate task other) (SawGate gate) = none (if_quiet (nat_lt other.seq WORN_NUMBER) _ _ (pinned_quiet task other gate (after_pin gate other.seq)) (quiet refl))
fault_by actor next (PinOther task other from to) Won = none (turns_quiet task other)
fault_by actor next (ReadCount task) (SawNumber count) = none (if_quiet (nat_le 1 count && nat_le count MAX_ENTRIES) _ _ (quiet refl) (quiet refl))
fault_by actor next (ReadAddr task count) (SawNumber addr) = none (if_quiet (nat_lt addr MAX_WORDS) _ _ (quiet refl) (quiet refl))
fault_by actor next (ReadExpected task count addr) (SawNumber expected) = none (if_quiet (nat_le expected MAX_VALUE) _ _ (quiet refl) (quiet refl))
fault_by actor next (ReadNew task count addr expected) (SawNumber new) = none (if_quiet (nat_le new MAX_VALUE) _ _ (if_quiet (nat_lt (length actor.others + 1) count) _ _ (quiet refl) (quiet refl)) (quiet refl))
fault_by actor next (Seal task) (Filed went_well) = after_call (Seal task) task went_well
fault_by actor next (Settle task) (Filed went_well) = after_call (Settle task) task went_well
fault_by actor next (SweepWord task sweep entry) (SawWord word) = none (swept_quiet actor task sweep entry word)
fault_by actor next (Release task sweep entry) Won = none (next_quiet actor task sweep entry)
fault_by actor next (Release task sweep entry) Lost = none (next_quiet actor task sweep entry)
fault_by actor next (Clean task entry value) Won = none (next_quiet actor task SweepDoneYes entry)
fault_by actor next (Clean task entry value) Lost = none (next_quiet actor task SweepDoneYes entry)
fault_by actor next (SweepConfirm task sweep entry attempt other) (SawWord word) = none (if_quiet (same_word word (planted attempt) && same_slot other task.target) _ _ (quiet refl) (next_quiet actor task sweep entry))
fault_by actor next (SweepResolve task sweep entry attempt) Won = none (next_quiet actor task sweep entry)
fault_by actor next (SweepResolve task sweep entry attempt) Lost = none (next_quiet actor task sweep entry)
fault_by actor next (Unpin slot onward) (SawGate gate) = as_before (unpinned_fault _ slot onward)
fault_by actor next (FreeSlot slot onward) Won = as_before refl
fault_by actor next (LowerDoor onward) (SawDoor door) = as_before (resumed_fault onward)
fault_by actor next (GiveUp own undecided) (SawStatus status) = none (quiet refl)
fault_by actor next (Unpin slot onward) observation = as_before refl
fault_by actor next (FreeSlot slot onward) observation = as_before refl
fault_by actor next (LowerDoor onward) observation = as_before refl
fault_by actor next (GiveUp own undecided) observation = as_before refl
fault_by actor next (FillStatus own) Won = none (quiet refl)
fault_by actor next (FillCount own) Won = none (quiet refl)
fault_by actor next (FillAddr own entry) Won = none (quiet refl)
fault_by actor next (FillExpected own entry) Won = none (quiet refl)
fault_by actor next (AnnounceRow task entry number) Won = none (quiet refl)
fault_by actor next (Plant task entry number) Won = none (quiet refl)
fault_by actor next (Plant task entry number) Lost = none (quiet refl)
fault_by actor next (ReadOtherRow task entry attempt) (SawRow row) = none (quiet refl)
fault_by actor next (DecideYes task) Won = none (quiet refl)
fault_by actor next (DecideYes task) Lost = none (quiet refl)
fault_by actor next (DecideNo task entry value) Won = none (quiet refl)
fault_by actor next (DecideNo task entry value) Lost = none (quiet refl)
fault_by actor next (CheckThenResolve task entry attempt) (SawStatus status) = none (quiet refl)
fault_by actor next (Resolve task entry attempt was_open) Won = none (quiet refl)
fault_by actor next (Resolve task entry attempt was_open) Lost = none (quiet refl)
fault_by actor next (PinOther task other from to) Lost = none (quiet refl)
fault_by actor next (SweepRow task sweep entry attempt) (SawRow row) = none (quiet refl)
fault_by actor next (Cancel task) (Filed went_well) = none (quiet refl)
fault_by actor next point observation = none (quiet refl)

pub fault_goes : (actor : ActorState) (next : ℕ) (point : Point) (observation : Observation) → says_fault (goes actor next point observation) ≡ true → (says_fault point ≡ true) ⊎ (observation ≡ Filed false)
fault_goes actor next point observation is = (fault_by actor next point observation).then is

-- a request that gives up and has the reply FAULT was on the way to give up with it
gave_fault : (actor : ActorState) (own : Slot) (undecided : Reply) (status : Status) → gave_up actor undecided status ≡ SaysFault → says_fault (GiveUp own undecided) ≡ true
gave_fault actor own undecided Yes is = absurd (cc)
gave_fault actor own undecided DoneYes is = absurd (cc)
gave_fault actor own undecided (No entry value) is = absurd (cc)
gave_fault actor own undecided (DoneNo entry value) is = absurd (cc)
gave_fault actor own undecided Draft is = ap (λ (reply : Reply). says_fault (GiveUp own reply)) is
gave_fault actor own undecided Open is = ap (λ (reply : Reply). says_fault (GiveUp own reply)) is
gave_fault actor own undecided YesDirty is = ap (λ (reply : Reply). says_fault (GiveUp own reply)) is

pub fault_given : (actor : ActorState) (next : ℕ) (own : Slot) (undecided : Reply) (observation : Observation) → goes actor next (GiveUp own undecided) observation ≡ Replied SaysFault → says_fault (GiveUp own undecided) ≡ true
fault_given actor next own undecided (SawStatus status) is = gave_fault actor own undecided status (same is)
  where
    same : Replied (gave_up actor undecided status) ≡ Replied SaysFault → gave_up actor undecided status ≡ SaysFault
    same e = cc
fault_given actor next own undecided observation is = absurd (cc)
