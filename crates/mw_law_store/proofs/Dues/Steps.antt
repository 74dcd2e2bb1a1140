-- Each step of a request leaves it as its label (what it adds to the history) says: one case for each point. Used by: Noted.
use Rattle.std.specs.Prelude.{ℕ, ◌≡◌, ◌+◌, ◌==◌, ◌||◌, Bool, true, false, nat_lt, Option, Some, None}
use Rattle.std.proofs.Common.{refl, sym, subst, inl, inr}
use Rattle.mw_words.specs.declared.limits.TheConstants.{WORN_NUMBER}
use Rattle.mw_words.specs.declared.doors.Door.{Door}
use Rattle.mw_words.specs.declared.gates.Gate.{Gate}
use Rattle.mw_words.specs.declared.replies.Reply.{Reply}
use Rattle.mw_words.specs.declared.replies.Reply.TheVariants.{Val, Yes as SaysYes, No as SaysNo, Busy as SaysBusy, Fault as SaysFault, Worn as SaysWorn}
use Rattle.mw_pool.specs.declared.doors.Admission.{Admission}
use Rattle.mw_pool.specs.declared.doors.Admission.TheVariants.{Fault as HasFailed, Busy as IsBusy, To}
use Rattle.mw_pool.specs.Moves.{after_admit, after_claim}
use Rattle.mw_look.proofs.RangeLaws.{either_way}
use Rattle.mw_look.specs.declared.observations.Observation.{Observation}
use Rattle.mw_look.specs.declared.observations.Observation.TheVariants.{SawDoor, SawGate, SawWord, SawStatus, SawRow, SawNumber, Won, Lost, Filed}
use Rattle.mw_actor.specs.declared.points.After.{After}
use Rattle.mw_actor.specs.declared.points.After.TheVariants.{Work, GiveUp as ThenGiveUp, Reply as ThenReply}
use Rattle.mw_actor.specs.declared.points.Point.{Point}
use Rattle.mw_actor.specs.declared.points.Point.TheVariants.{Read, ReadDoor, Admit, ScanGate, Claim, FillStatus, FillCount, FillAddr, FillExpected, FillNew, Prepare, ReadTargetStatus, Inspect, AnnounceRow, Plant, ReadOtherRow, ConfirmAttempt, ReadDirtyGate, ConfirmDirty, DecideYes, DecideNo, CheckThenResolve, Resolve, ReadOtherGate, PinOther, ReadCount, ReadAddr, ReadExpected, ReadNew, Seal, SweepWord, Release, Clean, SweepRow, SweepConfirm, SweepResolve, Settle, Cancel, Unpin, FreeSlot, LowerDoor, GiveUp, Replied}
use Rattle.mw_actor.specs.declared.points.Slot.{Slot}
use Rattle.mw_actor.specs.declared.points.Sweep.TheVariants.{Yes as SweepYes, DoneYes as SweepDoneYes, No as SweepNo, DoneNo as SweepDoneNo}
use Rattle.mw_actor.specs.declared.points.Task.{Task}
use Rattle.mw_actor.specs.ActorState.{ActorState, is_alone}
use Rattle.mw_actor.specs.Admission.{admitted, round_over, next_gate, is_worn, claiming}
use Rattle.mw_actor.specs.RequestEnds.{works, resumed, unpinned, gave_up}
use Rattle.mw_actor.specs.Inspection.{inspected}
use Rattle.mw_actor.specs.Program.{goes}
use Rattle.mw_world.specs.declared.step_labels.StepLabel.TheVariants.{Nothing, Freed, Lowered as IsLowered}
use Rattle.mw_world.specs.declared.step_labels.StepLabel.{StepLabel}
use Rattle.mw_world.specs.Definition.StepLabels.{door_label, inspect_label, give_up_label, label_of}
use Rattle.mw_law_runs.specs.Obligations.{own_of}
use Rattle.mw_law_runs.proofs.Obligations.Pins.{none_some}
use Rattle.mw_law_store.proofs.Dues.StepEnds.{IsToldAt, KeepsOn, Stays, StepEnds, elsewhere, dropping, keeps_on, is_meant_on, is_quiet_on, Seeks, seeks_on}
use Rattle.mw_law_store.proofs.Dues.Onward.{Onward, next_fill_goes, prepared_goes, works_goes_on, turns_goes, other_gate_goes, count_goes, addr_goes, expected_goes, new_goes, status_goes, Inspected, Looking, Refusing, inspected_goes, attempt_goes, dirty_gate_goes, dirty_goes, filed_goes, next_sweep_goes, swept_goes, sweep_confirmed_goes}
use Rattle.mw_law_store.proofs.Dues.Reads.{read_ends}
use Rattle.mw_law_store.proofs.ReachablePoints.{is_reachable}
use Rattle.mw_law_store.specs.Due.{Works, due}

-- a change that looks for a slot
next_gate_ends : (actor : ActorState) (slot : ℕ) (saw_worn : Bool) → Seeks (next_gate actor slot saw_worn)
next_gate_ends actor slot saw_worn =
    either_way Seeks (nat_lt (slot + 1) actor.pool) (ScanGate (slot + 1) saw_worn) (round_over saw_worn)
    (λ e. record { is_due = refl; no_change = refl; not_retiring = elsewhere; meant = refl })
    (λ e. either_way Seeks saw_worn (LowerDoor (ThenReply SaysWorn)) (ScanGate 0 false)
    (λ d. record { is_due = refl; no_change = refl; not_retiring = dropping; meant = refl })
    (λ d. record { is_due = refl; no_change = refl; not_retiring = elsewhere; meant = refl }))

claiming_ends : (actor : ActorState) (slot : ℕ) (saw_worn : Bool) (gate : Gate) (next : Option Gate) → Seeks (claiming actor slot saw_worn gate next)
claiming_ends actor slot saw_worn gate (Some to) = record { is_due = refl; no_change = refl; not_retiring = elsewhere; meant = refl }
claiming_ends actor slot saw_worn gate None = next_gate_ends actor slot (saw_worn || is_worn gate)

-- a change at its tenant's door
door_ends : (next : ℕ) (door : Door) (admission : Admission) → StepEnds (door_label (admitted next door admission)) ReadDoor (admitted next door admission)
door_ends next door HasFailed = ((refl, refl, refl, elsewhere), refl)
door_ends next door IsBusy = ((refl, refl, refl, elsewhere), refl)
door_ends next door (To to) =
    either_way (λ (after : Point). StepEnds (door_label after) ReadDoor after) (nat_lt next WORN_NUMBER) (Admit door to) (Replied SaysWorn)
    (λ e. (inl (Stays (refl, (λ mine has. has), elsewhere)), refl)) (λ e. (inr (inl refl, refl, refl, elsewhere), refl))

module _ (own : Slot) (point after : Point) (is_due : due point ≡ Works) (its_own : own_of point ≡ Some own) where
  -- a change that is worked on, by a step that has no label, or that is a move of a word
  on : Onward own after → StepEnds Nothing point after
  on goes_on = (inl (keeps_on own point after is_due its_own goes_on), is_meant_on own point after is_due its_own goes_on)

  moves : Onward own after → KeepsOn point after × (is_reachable after ≡ true)
  moves goes_on = (keeps_on own point after is_due its_own goes_on, is_meant_on own point after is_due its_own goes_on)

-- a word was inspected
inspect_ends : (task : Task) (entry : ℕ) (after : Point) → Inspected task entry after → StepEnds (inspect_label after) (Inspect task entry) after
inspect_ends task entry after (Looking goes_on) =
    subst (λ (label : StepLabel). StepEnds label (Inspect task entry) after) (sym (is_quiet_on task.own (Inspect task entry) after refl refl goes_on)) (on task.own (Inspect task entry) after refl refl goes_on)
inspect_ends task entry after (Refusing value is) =
    subst (λ (point : Point). StepEnds (inspect_label point) (Inspect task entry) point) (sym is) ((refl, (λ mine has. has), elsewhere), refl)

-- a pin is given back
works_ends : (slot : Slot) (task : Task) → StepEnds Nothing (Unpin slot (Work task)) (works task)
works_ends slot task = on task.own (Unpin slot (Work task)) (works task) refl refl (works_goes_on task)

resumed_ends : (slot : Slot) (onward : After) → is_reachable (Unpin slot onward) ≡ true → StepEnds Nothing (Unpin slot onward) (resumed onward)
resumed_ends slot (Work task) meant = works_ends slot task
resumed_ends slot (ThenGiveUp own undecided) meant = (inl (Stays (refl, (λ mine has. has), elsewhere)), meant)
resumed_ends slot (ThenReply reply) meant = (inl (Stays (refl, (λ mine has. absurd (none_some mine has)), elsewhere)), refl)

unpinned_ends : (slot : Slot) (onward : After) (gate : Gate) → is_reachable (Unpin slot onward) ≡ true → StepEnds Nothing (Unpin slot onward) (unpinned slot onward gate)
unpinned_ends slot onward gate meant =
    either_way (StepEnds Nothing (Unpin slot onward)) (gate.pins == 1) (FreeSlot slot onward) (resumed onward) (λ e. (inl (Stays (refl, free_own onward, elsewhere)), meant)) (λ e. resumed_ends slot onward meant)
  where
    free_own : (onward : After) (mine : Slot) → own_of (FreeSlot slot onward) ≡ Some mine → own_of (Unpin slot onward) ≡ Some mine
    free_own (Work task) mine has = has
    free_own (ThenGiveUp own undecided) mine has = has
    free_own (ThenReply reply) mine has = absurd (none_some mine has)

-- a slot is freed, and its door is lowered
module _ (slot : Slot) where
  free_ends : (onward : After) → is_reachable (FreeSlot slot onward) ≡ true → StepEnds (Freed slot) (FreeSlot slot onward) (LowerDoor onward)
  free_ends (Work task) meant = ((refl, (λ mine has. has), refl), refl)
  free_ends (ThenGiveUp own undecided) meant = ((refl, (λ mine has. has), refl), meant)
  free_ends (ThenReply (Val value)) meant = ((refl, (λ mine has. has), refl), refl)
  free_ends (ThenReply SaysYes) meant = ((refl, (λ mine has. has), refl), refl)
  free_ends (ThenReply (SaysNo address value)) meant = ((refl, (λ mine has. has), refl), refl)
  free_ends (ThenReply SaysBusy) meant = ((refl, (λ mine has. has), refl), refl)
  free_ends (ThenReply SaysFault) meant = ((refl, (λ mine has. has), refl), refl)
  free_ends (ThenReply SaysWorn) meant = cc

lower_ends : (onward : After) → is_reachable (LowerDoor onward) ≡ true → StepEnds IsLowered (LowerDoor onward) (resumed onward)
lower_ends (Work task) meant =
    either_way (StepEnds IsLowered (LowerDoor (Work task))) (is_alone task) (ReadTargetStatus task) (ReadCount task)
    (λ e. (inl (refl, (λ mine has. has), refl, elsewhere), refl)) (λ e. (inl (refl, (λ mine has. has), refl, elsewhere), refl))
lower_ends (ThenGiveUp own undecided) meant = (inl (refl, (λ mine has. has), refl, elsewhere), meant)
lower_ends (ThenReply (Val value)) meant = (inl (refl, (λ mine has. has), refl, elsewhere), refl)
lower_ends (ThenReply SaysYes) meant = (inl (refl, (λ mine has. has), refl, elsewhere), refl)
lower_ends (ThenReply (SaysNo address value)) meant = (inl (refl, (λ mine has. has), refl, elsewhere), refl)
lower_ends (ThenReply SaysBusy) meant = (inl (refl, (λ mine has. has), refl, elsewhere), refl)
lower_ends (ThenReply SaysFault) meant = (inl (refl, (λ mine has. has), refl, elsewhere), refl)
lower_ends (ThenReply SaysWorn) meant = (inr (refl, refl, refl, refl, elsewhere), refl)

-- a change gives up, and has the reply that its status gives, or the one with which it gives up
give_up_ends : (own : Slot) (undecided reply : Reply) → StepEnds (give_up_label own (Replied reply)) (GiveUp own undecided) (Replied reply)
give_up_ends own undecided SaysFault = ((refl, refl, refl, (λ mine has. absurd (none_some mine has)), elsewhere), refl)
give_up_ends own undecided SaysWorn = (inr (inr refl, refl, refl, elsewhere), refl)
give_up_ends own undecided (Val value) = (inl (Val value, (refl, refl, refl, (λ mine has. absurd (none_some mine has)), elsewhere)), refl)
give_up_ends own undecided SaysYes = (inl (SaysYes, (refl, refl, refl, (λ mine has. absurd (none_some mine has)), elsewhere)), refl)
give_up_ends own undecided (SaysNo address value) = (inl (SaysNo address value, (refl, refl, refl, (λ mine has. absurd (none_some mine has)), elsewhere)), refl)
give_up_ends own undecided SaysBusy = (inl (SaysBusy, (refl, refl, refl, (λ mine has. absurd (none_some mine has)), elsewhere)), refl)

-- Each step ends so, and leaves the request at a point that it can reach.
pub step_ends : (actor : ActorState) (next : ℕ) (point : Point) (observation : Observation) → is_reachable point ≡ true → IsToldAt point observation
    → StepEnds (label_of actor point observation (goes actor next point observation)) point (goes actor next point observation)
step_ends actor next (Read reading) observation meant told = read_ends reading.tenant reading.address reading.point observation told
-- a slot is found, and the change is written there
step_ends actor next ReadDoor (SawDoor door) meant told = door_ends next door (after_admit door actor.quota)
step_ends actor next (Admit from to) Won meant told = ((refl, refl, refl, elsewhere), refl)
step_ends actor next (Admit from to) Lost meant told = (inl (Stays (refl, (λ mine has. has), elsewhere)), refl)
step_ends actor next (ScanGate slot saw_worn) (SawGate gate) meant told = seeks_on (ScanGate slot saw_worn) (claiming actor slot saw_worn gate (after_claim gate)) refl refl (claiming_ends actor slot saw_worn gate (after_claim gate))
step_ends actor next (Claim slot saw_worn from to) Won meant told = ((refl, refl, refl, elsewhere), refl)
step_ends actor next (Claim slot saw_worn from to) Lost meant told = seeks_on (Claim slot saw_worn from to) (next_gate actor slot saw_worn) refl refl (next_gate_ends actor slot saw_worn)
step_ends actor next (FillStatus own) Won meant told = (inl (Stays (refl, (λ mine has. has), elsewhere)), refl)
step_ends actor next (FillCount own) Won meant told = (inl (Stays (refl, (λ mine has. has), elsewhere)), refl)
step_ends actor next (FillAddr own entry) Won meant told = (inl (Stays (refl, (λ mine has. has), elsewhere)), refl)
step_ends actor next (FillExpected own entry) Won meant told = (inl (Stays (refl, (λ mine has. has), elsewhere)), refl)
step_ends actor next (FillNew own entry) Won meant told = on own (FillNew own entry) _ refl refl (next_fill_goes actor own entry)
step_ends actor next (Prepare own) (Filed went_well) meant told = on own (Prepare own) _ refl refl (prepared_goes own went_well)
-- the words of an open change are inspected, and acquired one by one
step_ends actor next (ReadTargetStatus task) (SawStatus status) meant told = on task.own (ReadTargetStatus task) _ refl refl (status_goes task status)
step_ends actor next (Inspect task entry) (SawWord word) meant told = inspect_ends task entry (inspected actor next task entry word) (inspected_goes actor next task entry word)
step_ends actor next (AnnounceRow task entry number) Won meant told = (inl (Stays (refl, (λ mine has. has), elsewhere)), refl)
step_ends actor next (Plant task entry number) Won meant told = (inl (Stays (refl, (λ mine has. has), elsewhere)), refl)
step_ends actor next (Plant task entry number) Lost meant told = (inl (Stays (refl, (λ mine has. has), elsewhere)), refl)
step_ends actor next (ReadOtherRow task entry attempt) (SawRow row) meant told = (inl (Stays (refl, (λ mine has. has), elsewhere)), refl)
step_ends actor next (ConfirmAttempt task entry attempt other) (SawWord word) meant told = on task.own (ConfirmAttempt task entry attempt other) _ refl refl (attempt_goes task entry attempt other word)
step_ends actor next (ReadDirtyGate task entry slot value) (SawGate gate) meant told = on task.own (ReadDirtyGate task entry slot value) _ refl refl (dirty_gate_goes task entry slot value gate)
step_ends actor next (ConfirmDirty task entry other value) (SawWord word) meant told = on task.own (ConfirmDirty task entry other value) _ refl refl (dirty_goes task other value word)
step_ends actor next (DecideYes task) Won meant told = ((refl, (λ mine has. has), elsewhere), refl)
step_ends actor next (DecideYes task) Lost meant told = (inl (Stays (refl, (λ mine has. has), elsewhere)), refl)
step_ends actor next (DecideNo task entry value) Won meant told = ((refl, (λ mine has. has), elsewhere), refl)
step_ends actor next (DecideNo task entry value) Lost meant told = (inl (Stays (refl, (λ mine has. has), elsewhere)), refl)
step_ends actor next (CheckThenResolve task entry attempt) (SawStatus status) meant told = (inl (Stays (refl, (λ mine has. has), elsewhere)), refl)
step_ends actor next (Resolve task entry attempt true) Won meant told = (Stays (refl, (λ mine has. has), elsewhere), refl)
step_ends actor next (Resolve task entry attempt false) Won meant told = (inl (Stays (refl, (λ mine has. has), elsewhere)), refl)
step_ends actor next (Resolve task entry attempt was_open) Lost meant told = (inl (Stays (refl, (λ mine has. has), elsewhere)), refl)
-- another's change is pinned and read
step_ends actor next (ReadOtherGate task other) (SawGate gate) meant told = on task.own (ReadOtherGate task other) _ refl refl (other_gate_goes task other gate)
step_ends actor next (PinOther task other from to) Won meant told = on task.own (PinOther task other from to) _ refl refl (turns_goes task other)
step_ends actor next (PinOther task other from to) Lost meant told = (inl (Stays (refl, (λ mine has. has), elsewhere)), refl)
step_ends actor next (ReadCount task) (SawNumber count) meant told = on task.own (ReadCount task) _ refl refl (count_goes task count)
step_ends actor next (ReadAddr task count) (SawNumber addr) meant told = on task.own (ReadAddr task count) _ refl refl (addr_goes task count addr)
step_ends actor next (ReadExpected task count addr) (SawNumber expected) meant told = on task.own (ReadExpected task count addr) _ refl refl (expected_goes task count addr expected)
step_ends actor next (ReadNew task count addr expected) (SawNumber new) meant told = on task.own (ReadNew task count addr expected) _ refl refl (new_goes actor task count addr expected new)
-- the words of a decided change are released
step_ends actor next (Seal task) (Filed went_well) meant told = on task.own (Seal task) _ refl refl (filed_goes task went_well)
step_ends actor next (SweepWord task sweep entry) (SawWord word) meant told = on task.own (SweepWord task sweep entry) _ refl refl (swept_goes actor task sweep entry word)
step_ends actor next (Release task SweepYes entry) Won meant told = moves task.own (Release task SweepYes entry) _ refl refl (next_sweep_goes actor task SweepYes entry)
step_ends actor next (Release task SweepDoneYes entry) Won meant told = moves task.own (Release task SweepDoneYes entry) _ refl refl (next_sweep_goes actor task SweepDoneYes entry)
step_ends actor next (Release task SweepNo entry) Won meant told = moves task.own (Release task SweepNo entry) _ refl refl (next_sweep_goes actor task SweepNo entry)
step_ends actor next (Release task (SweepDoneNo index found) entry) Won meant told = moves task.own (Release task (SweepDoneNo index found) entry) _ refl refl (next_sweep_goes actor task (SweepDoneNo index found) entry)
step_ends actor next (Release task sweep entry) Lost meant told = on task.own (Release task sweep entry) _ refl refl (next_sweep_goes actor task sweep entry)
step_ends actor next (Clean task entry value) Won meant told = moves task.own (Clean task entry value) _ refl refl (next_sweep_goes actor task SweepDoneYes entry)
step_ends actor next (Clean task entry value) Lost meant told = on task.own (Clean task entry value) _ refl refl (next_sweep_goes actor task SweepDoneYes entry)
step_ends actor next (SweepRow task sweep entry attempt) (SawRow row) meant told = (inl (Stays (refl, (λ mine has. has), elsewhere)), refl)
step_ends actor next (SweepConfirm task sweep entry attempt other) (SawWord word) meant told = on task.own (SweepConfirm task sweep entry attempt other) _ refl refl (sweep_confirmed_goes actor task sweep entry attempt other word)
step_ends actor next (SweepResolve task sweep entry attempt) Won meant told = on task.own (SweepResolve task sweep entry attempt) _ refl refl (next_sweep_goes actor task sweep entry)
step_ends actor next (SweepResolve task sweep entry attempt) Lost meant told = on task.own (SweepResolve task sweep entry attempt) _ refl refl (next_sweep_goes actor task sweep entry)
step_ends actor next (Settle task) (Filed went_well) meant told = on task.own (Settle task) _ refl refl (filed_goes task went_well)
step_ends actor next (Cancel task) (Filed went_well) meant told = (inl (Stays (refl, (λ mine has. has), elsewhere)), refl)
-- a slot is given back, and the request ends
step_ends actor next (Unpin slot onward) (SawGate gate) meant told = unpinned_ends slot onward gate meant
step_ends actor next (Unpin slot onward) observation meant told = (inl (Stays (refl, (λ mine has. has), elsewhere)), meant)
step_ends actor next (FreeSlot slot onward) observation meant told =
    subst (λ (one : Observation). StepEnds (Freed slot) (FreeSlot slot onward) (goes actor next (FreeSlot slot onward) one)) (sym told) (free_ends slot onward meant)
step_ends actor next (LowerDoor onward) observation meant told =
    subst (λ (one : Observation). StepEnds IsLowered (LowerDoor onward) (goes actor next (LowerDoor onward) one)) (sym told.1) (lower_ends onward meant)
step_ends actor next (GiveUp own undecided) observation meant told =
    subst (λ (one : Observation). StepEnds (give_up_label own (goes actor next (GiveUp own undecided) one)) (GiveUp own undecided) (goes actor next (GiveUp own undecided) one)) (sym told.1)
    (give_up_ends own undecided (gave_up actor undecided told.0))
step_ends actor next (Replied reply) Won meant told = (inl (Stays (refl, (λ mine has. has), elsewhere)), refl)
step_ends actor next point observation meant told = (inl (Stays (refl, (λ mine has. has), elsewhere)), refl)
