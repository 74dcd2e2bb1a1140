-- A request that comes to a point where it needs a reserved place in the history reserves one by that step, or already had
-- it. Used by: Called, ReservedPlaces.
use Rattle.std.specs.Prelude.{ℕ, ◌≡◌, ◌⊎◌, ◌||◌, ◌==◌, ◌+◌, Bool, false, nat_lt, Option, Some, None}
use Rattle.std.proofs.Common.{refl, ap, inl, inr}
use Rattle.mw_words.specs.declared.doors.Door.{Door}
use Rattle.mw_words.specs.declared.gates.Gate.{Gate}
use Rattle.mw_words.specs.declared.words.Word.{Word}
use Rattle.mw_words.specs.declared.replies.Reply.{Reply}
use Rattle.mw_look.specs.declared.points.After.{After as AfterRead}
use Rattle.mw_look.specs.declared.points.After.TheVariants.{Again, Answer}
use Rattle.mw_look.specs.declared.points.Point.{Point as ReadPoint}
use Rattle.mw_look.specs.declared.points.Point.TheVariants.{Unpin as UnpinOfRead, FreeSlot as FreeOfRead, LowerDoor as LowerOfRead, Replied as RepliedOfRead}
use Rattle.mw_look.specs.declared.observations.Observation.{Observation}
use Rattle.mw_look.specs.declared.observations.Observation.TheVariants.{Won, Lost, SawDoor, SawGate, SawRow, SawWord, SawStatus, SawNumber, Filed}
use Rattle.mw_actor.specs.declared.points.After.{After}
use Rattle.mw_actor.specs.declared.points.After.TheVariants.{Work, GiveUp as ThenGiveUp, Reply as ThenReply}
use Rattle.mw_actor.specs.declared.points.Point.{Point}
use Rattle.mw_actor.specs.declared.points.Point.TheVariants.{Read, ReadDoor, Admit, ScanGate, Claim, FillStatus, FillCount, FillAddr, FillExpected, FillNew, Prepare, ReadTargetStatus, Inspect, AnnounceRow, Plant, ReadOtherRow, ConfirmAttempt, ReadDirtyGate, ConfirmDirty, DecideYes, DecideNo, CheckThenResolve, Resolve, ReadOtherGate, PinOther, ReadCount, ReadAddr, ReadExpected, ReadNew, Seal, SweepWord, Release, Clean, SweepRow, SweepConfirm, SweepResolve, Settle, Cancel, Unpin, FreeSlot, LowerDoor, GiveUp, Replied}
use Rattle.mw_actor.specs.declared.points.Slot.{Slot}
use Rattle.mw_actor.specs.declared.points.Sweep.TheVariants.{DoneYes as SweepDoneYes}
use Rattle.mw_actor.specs.declared.points.Task.{Task}
use Rattle.mw_actor.specs.ActorState.{ActorState}
use Rattle.mw_actor.specs.Admission.{admitted, claiming, next_gate, round_over, is_worn}
use Rattle.mw_actor.specs.RequestEnds.{works, resumed}
use Rattle.mw_actor.specs.Inspection.{inspected}
use Rattle.mw_actor.specs.Program.{goes}
use Rattle.mw_look.proofs.RangeLaws.{either_way}
use Rattle.mw_pool.specs.Moves.{after_admit, after_claim}
use Rattle.mw_pool.specs.declared.doors.Admission.{Admission}
use Rattle.mw_pool.specs.declared.doors.Admission.TheVariants.{Fault as HasFailed, Busy as IsBusy, To}
use Rattle.mw_words.specs.declared.limits.TheConstants.{WORN_NUMBER}
use Rattle.mw_words.specs.declared.replies.Reply.TheVariants.{Val, Yes as SaysYes, No as SaysNo, Busy as SaysBusy, Fault as SaysFault, Worn as SaysWorn}
use Rattle.mw_world.specs.declared.step_labels.StepLabel.TheVariants.{Reserved, Nothing}
use Rattle.mw_world.specs.Definition.StepLabels.{inspect_label}
use Rattle.mw_law_store.proofs.Dues.Onward.{Onward, Going, Finishing, Inspected, Looking, Refusing, addr_goes, attempt_goes, count_goes, dirty_gate_goes, dirty_goes, expected_goes, filed_goes, inspected_goes, new_goes, next_fill_goes, next_sweep_goes, other_gate_goes, prepared_goes, status_goes, sweep_confirmed_goes, swept_goes, turns_goes, works_goes_on}
use Rattle.mw_law_store.specs.Due.{Works, due, due_after_read, due_read, due_reply}
use Rattle.mw_law_store.specs.ReservedPlaces.{keeps}

-- At this point the request has no reserved place.
abbrev pub ReservesNone : Point → Type 0
ReservesNone point = keeps point ≡ false

after_read_works : (after : AfterRead) → due_after_read after ≡ Works → ⊥
after_read_works Again is = cc
after_read_works (Answer value) is = cc

reply_works : (reply : Reply) → due_reply reply ≡ Works → ⊥
reply_works (Val value) is = cc
reply_works SaysYes is = cc
reply_works (SaysNo address value) is = cc
reply_works SaysBusy is = cc
reply_works SaysFault is = cc
reply_works SaysWorn is = cc

read_works : (point : ReadPoint) → due_read point ≡ Works → ⊥
read_works (UnpinOfRead slot seq after) is = after_read_works after is
read_works (FreeOfRead slot seq after) is = after_read_works after is
read_works (LowerOfRead after) is = after_read_works after is
read_works (RepliedOfRead reply) is = reply_works reply is
read_works point is = cc

-- A change that goes on with its own change, or is done with it, has no reserved place.
none_at : (after : Point) → due after ≡ Works → inspect_label after ≡ Nothing → ReservesNone after
none_at (Read look) works quiet = absurd (read_works look.point works)
none_at (DecideNo task entry value) works quiet = absurd (cc)
none_at after works quiet = refl

onward_none : (own : Slot) (after : Point) → Onward own after → ReservesNone after
onward_none own after (Going works its lowered quiet meant) = none_at after works quiet
onward_none own after (Finishing reply is said meant) = ap keeps is

resumed_none : (onward : After) → ReservesNone (resumed onward)
resumed_none (Work task) = onward_none task.own (works task) (works_goes_on task)
resumed_none (ThenGiveUp own undecided) = refl
resumed_none (ThenReply reply) = refl

next_gate_none : (actor : ActorState) (slot : ℕ) (saw_worn : Bool) → ReservesNone (next_gate actor slot saw_worn)
next_gate_none actor slot saw_worn =
    either_way ReservesNone (nat_lt (slot + 1) actor.pool) (ScanGate (slot + 1) saw_worn) (round_over saw_worn) (λ e. refl)
    (λ e. either_way ReservesNone saw_worn (LowerDoor (ThenReply SaysWorn)) (ScanGate 0 false) (λ d. refl) (λ d. refl))

claiming_none : (actor : ActorState) (slot : ℕ) (saw_worn : Bool) (gate : Gate) (next : Option Gate) → ReservesNone (claiming actor slot saw_worn gate next)
claiming_none actor slot saw_worn gate (Some to) = refl
claiming_none actor slot saw_worn gate None = next_gate_none actor slot (saw_worn || is_worn gate)

admitted_none : (next : ℕ) (door : Door) (admission : Admission) → ReservesNone (admitted next door admission)
admitted_none next door HasFailed = refl
admitted_none next door IsBusy = refl
admitted_none next door (To to) = either_way ReservesNone (nat_lt next WORN_NUMBER) (Admit door to) (Replied SaysWorn) (λ e. refl) (λ e. refl)

-- A change that inspects no word has no reserved place after its step, if its exchange to decide NO, should the step be one, was
-- won or lost.
abbrev pub ReservesAfterStep : Point → Observation → Type 0
ReservesAfterStep (Read look) observation = ⊥
ReservesAfterStep (Inspect task entry) observation = ⊥
ReservesAfterStep (DecideNo task entry value) Won = Unit {0}
ReservesAfterStep (DecideNo task entry value) Lost = Unit {0}
ReservesAfterStep (DecideNo task entry value) observation = ⊥
ReservesAfterStep point observation = Unit {0}

pub keeps_none : (actor : ActorState) (next : ℕ) (point : Point) (observation : Observation) → ReservesAfterStep point observation → ReservesNone (goes actor next point observation)
keeps_none actor next (Read look) observation may = absurd may
keeps_none actor next (Inspect task entry) observation may = absurd may
keeps_none actor next (DecideNo task entry value) Won may = refl
keeps_none actor next (DecideNo task entry value) Lost may = refl
keeps_none actor next (DecideNo task entry value) observation may = absurd may
keeps_none actor next ReadDoor (SawDoor door) may = admitted_none next door (after_admit door actor.quota)
keeps_none actor next (Admit from to) Won may = refl
keeps_none actor next (Admit from to) Lost may = refl
keeps_none actor next (ScanGate slot saw_worn) (SawGate gate) may = claiming_none actor slot saw_worn gate (after_claim gate)
keeps_none actor next (Claim slot saw_worn from to) Won may = refl
keeps_none actor next (Claim slot saw_worn from to) Lost may = next_gate_none actor slot saw_worn
keeps_none actor next (FillStatus own) Won may = refl
keeps_none actor next (FillCount own) Won may = refl
keeps_none actor next (FillAddr own entry) Won may = refl
keeps_none actor next (FillExpected own entry) Won may = refl
keeps_none actor next (FillNew own entry) Won may = onward_none own _ (next_fill_goes actor own entry)
keeps_none actor next (Prepare own) (Filed went_well) may = onward_none own _ (prepared_goes own went_well)
keeps_none actor next (ReadTargetStatus task) (SawStatus status) may = onward_none task.own _ (status_goes task status)
keeps_none actor next (AnnounceRow task entry number) Won may = refl
keeps_none actor next (Plant task entry number) Won may = refl
keeps_none actor next (Plant task entry number) Lost may = refl
keeps_none actor next (ReadOtherRow task entry attempt) (SawRow row) may = refl
keeps_none actor next (ConfirmAttempt task entry attempt other) (SawWord word) may = onward_none task.own _ (attempt_goes task entry attempt other word)
keeps_none actor next (ReadDirtyGate task entry slot value) (SawGate gate) may = onward_none task.own _ (dirty_gate_goes task entry slot value gate)
keeps_none actor next (ConfirmDirty task entry other value) (SawWord word) may = onward_none task.own _ (dirty_goes task other value word)
keeps_none actor next (DecideYes task) Won may = refl
keeps_none actor next (DecideYes task) Lost may = refl
keeps_none actor next (CheckThenResolve task entry attempt) (SawStatus status) may = refl
keeps_none actor next (Resolve task entry attempt was_open) Won may = refl
keeps_none actor next (Resolve task entry attempt was_open) Lost may = refl
keeps_none actor next (ReadOtherGate task other) (SawGate gate) may = onward_none task.own _ (other_gate_goes task other gate)
keeps_none actor next (PinOther task other from to) Won may = onward_none task.own _ (turns_goes task other)
keeps_none actor next (PinOther task other from to) Lost may = refl
keeps_none actor next (ReadCount task) (SawNumber count) may = onward_none task.own _ (count_goes task count)
keeps_none actor next (ReadAddr task count) (SawNumber addr) may = onward_none task.own _ (addr_goes task count addr)
keeps_none actor next (ReadExpected task count addr) (SawNumber expected) may = onward_none task.own _ (expected_goes task count addr expected)
keeps_none actor next (ReadNew task count addr expected) (SawNumber new) may = onward_none task.own _ (new_goes actor task count addr expected new)
keeps_none actor next (Seal task) (Filed went_well) may = onward_none task.own _ (filed_goes task went_well)
keeps_none actor next (SweepWord task sweep entry) (SawWord word) may = onward_none task.own _ (swept_goes actor task sweep entry word)
keeps_none actor next (Release task sweep entry) Won may = onward_none task.own _ (next_sweep_goes actor task sweep entry)
keeps_none actor next (Release task sweep entry) Lost may = onward_none task.own _ (next_sweep_goes actor task sweep entry)
keeps_none actor next (Clean task entry value) Won may = onward_none task.own _ (next_sweep_goes actor task SweepDoneYes entry)
keeps_none actor next (Clean task entry value) Lost may = onward_none task.own _ (next_sweep_goes actor task SweepDoneYes entry)
keeps_none actor next (SweepRow task sweep entry attempt) (SawRow row) may = refl
keeps_none actor next (SweepConfirm task sweep entry attempt other) (SawWord word) may = onward_none task.own _ (sweep_confirmed_goes actor task sweep entry attempt other word)
keeps_none actor next (SweepResolve task sweep entry attempt) Won may = onward_none task.own _ (next_sweep_goes actor task sweep entry)
keeps_none actor next (SweepResolve task sweep entry attempt) Lost may = onward_none task.own _ (next_sweep_goes actor task sweep entry)
keeps_none actor next (Settle task) (Filed went_well) may = onward_none task.own _ (filed_goes task went_well)
keeps_none actor next (Cancel task) (Filed went_well) may = refl
keeps_none actor next (Unpin slot onward) (SawGate gate) may = either_way ReservesNone (gate.pins == 1) (FreeSlot slot onward) (resumed onward) (λ e. refl) (λ e. resumed_none onward)
keeps_none actor next (FreeSlot slot onward) Won may = refl
keeps_none actor next (LowerDoor onward) (SawDoor door) may = resumed_none onward
keeps_none actor next (GiveUp own undecided) (SawStatus status) may = refl
keeps_none actor next point observation may = refl

-- A change that inspects a word reserves a place if it is refused, and else has none.
pub inspect_place : (actor : ActorState) (next : ℕ) (task : Task) (entry : ℕ) (word : Word)
    → ReservesNone (inspected actor next task entry word) ⊎ (inspect_label (inspected actor next task entry word) ≡ Reserved)
inspect_place actor next task entry word = by_end (inspected_goes actor next task entry word)
  where
    by_end : Inspected task entry (inspected actor next task entry word) → ReservesNone (inspected actor next task entry word) ⊎ (inspect_label (inspected actor next task entry word) ≡ Reserved)
    by_end (Looking onward) = inl (onward_none task.own (inspected actor next task entry word) onward)
    by_end (Refusing value is) = inr (ap inspect_label is)
