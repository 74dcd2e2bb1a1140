-- A request goes on to BUSY, FAULT or WORN only with evidence for that reply (`specs/Evidence`): one case for each point.
-- Used by: EvidenceSteps.
use Rattle.std.specs.Prelude.{ℕ, ◌+◌, ◌≡◌, ◌≤◌, ◌==◌, ◌&&◌, ◌||◌, not, Bool, true, false, cond, nat_lt, nat_le, length, List, Option, Some, None}
use Rattle.std.proofs.Common.{refl, inl, inr, arith}
use Rattle.std.proofs.lemmas.Bool.Decides.{nat_tests}
use Rattle.mw_words.specs.declared.doors.Door.{Door}
use Rattle.mw_words.specs.declared.gates.Gate.{Gate}
use Rattle.mw_words.specs.declared.limits.TheConstants.{MAX_ENTRIES, MAX_VALUE, MAX_WORDS, WORN_NUMBER}
use Rattle.mw_words.specs.declared.replies.Reply.{Reply}
use Rattle.mw_words.specs.declared.replies.Reply.TheVariants.{Yes as SaysYes, Fault as SaysFault, Worn as SaysWorn}
use Rattle.mw_words.specs.declared.statuses.Status.{Status}
use Rattle.mw_words.specs.declared.statuses.Status.TheVariants.{Draft, Open, YesDirty, Yes, No, DoneYes, DoneNo}
use Rattle.mw_words.specs.declared.words.Word.{Word}
use Rattle.mw_words.specs.declared.words.Word.TheVariants.{Plain, Planted, Held, Dirty}
use Rattle.mw_look.specs.declared.observations.Observation.{Observation}
use Rattle.mw_look.specs.declared.observations.Observation.TheVariants.{SawDoor, SawGate, SawWord, SawStatus, SawRow, SawNumber, Won, Lost, Filed}
use Rattle.mw_look.specs.Program.{same_word}
use Rattle.mw_look.proofs.RangeLaws.{either_way}
use Rattle.mw_actor.specs.declared.points.After.{After}
use Rattle.mw_actor.specs.declared.points.After.TheVariants.{Work, GiveUp as ThenGiveUp, Reply as ThenReply}
use Rattle.mw_actor.specs.declared.points.Attempt.{Attempt}
use Rattle.mw_actor.specs.declared.points.Point.{Point}
use Rattle.mw_actor.specs.declared.points.Point.TheVariants.{Read, ReadDoor, Admit, ScanGate, Claim, FillStatus, FillCount, FillAddr, FillExpected, FillNew, Prepare, ReadTargetStatus, Inspect, AnnounceRow, Plant, ReadOtherRow, ConfirmAttempt, ReadDirtyGate, ConfirmDirty, DecideYes, DecideNo, CheckThenResolve, Resolve, ReadOtherGate, PinOther, ReadCount, ReadAddr, ReadExpected, ReadNew, Seal, SweepWord, Release, Clean, SweepRow, SweepConfirm, SweepResolve, Settle, Cancel, Unpin, FreeSlot, LowerDoor, GiveUp, Replied}
use Rattle.mw_actor.specs.declared.points.Slot.{Slot}
use Rattle.mw_actor.specs.declared.points.Sweep.{Sweep}
use Rattle.mw_actor.specs.declared.points.Sweep.TheVariants.{Yes as SweepYes, DoneYes as SweepDoneYes, No as SweepNo, DoneNo as SweepDoneNo}
use Rattle.mw_actor.specs.declared.points.Task.{Task}
use Rattle.mw_actor.specs.ActorState.{ActorState, own_entries, entries_of, entry_of, is_alone, alone, same_slot, planted}
use Rattle.mw_actor.specs.Admission.{admitted, door_read, round_over, next_gate, is_worn, claiming, next_fill, prepared}
use Rattle.mw_actor.specs.RequestEnds.{works, resumed, unpinned, gives_up, refusal, gave_up, finishes}
use Rattle.mw_actor.specs.Help.{turns_to, helps, pinned, other_gate_read, count_read, addr_read, expected_read, next_read, new_read}
use Rattle.mw_actor.specs.Inspection.{status_read, next_word, attempts, dirty_seen, inspected, attempt_met, attempt_confirmed, dirty_gate_read, dirty_confirmed}
use Rattle.mw_actor.specs.Program.{goes}
use Rattle.mw_actor.specs.ReleasePhase.{filed, sweep_over, next_sweep, swept, sweep_confirmed}
use Rattle.mw_rule.specs.declared.views.Finding.{Finding}
use Rattle.mw_rule.specs.Evidence.{FoundDoor, FoundGate, FoundWorn, HasEvidenceAfter, HasEvidenceAt, HasEvidenceBy, MetFault}
use Rattle.mw_rule.proofs.EvidenceOfReads.{IfDoor, IsToldOfRead, read_so}

no_lower : (n m : ℕ) → nat_lt n m ≡ false → m ≤ n
no_lower n m is = grind (arith, nat_tests, is)

false_true : false ≡ true → ⊥
false_true e = cc

either_true : (P : Type 0) (one other : Bool) → (one ≡ true → P) → (other ≡ true → P) → (one || other) ≡ true → P
either_true P true other first second is = first refl
either_true P false other first second is = second is

-- a gate that was found not taken, with the last number
gate_worn : (found : List Finding) (slot : ℕ) (gate : Gate) → FoundGate found slot gate → is_worn gate ≡ true → FoundWorn found
gate_worn found slot gate there is =
    let tests = both gate.taken (gate.seq == WORN_NUMBER) is in record { slot = slot; gate = gate; there = there; not_taken = tests.0; worn = same gate.seq WORN_NUMBER tests.1 }
  where
    both : (taken last : Bool) → (not taken && last) ≡ true → (taken ≡ false) × (last ≡ true)
    both true last e = absurd (false_true e)
    both false last e = (refl, e)

    same : (n m : ℕ) → (n == m) ≡ true → n ≡ m
    same n m e = grind (arith, nat_tests, e)

abbrev pub IfGate : (Gate → Type 0) → Observation → Type 0
IfGate IsSo (SawGate gate) = IsSo gate
IfGate IsSo observation = Unit {0}

abbrev pub IfFiled : (Bool → Type 0) → Observation → Type 0
IfFiled IsSo (Filed went_well) = IsSo went_well
IfFiled IsSo observation = Unit {0}

-- The arguments: what the steps found so far, the number of the worker's next attempt, and the request.
module _ (found : List Finding) (next : ℕ) (me : ActorState) where
  abbrev HasIt : Point → Type 0
  HasIt point = HasEvidenceAt found next me.tenant me.quota point

  -- How a change is admitted and finds a slot.

  admitted_so : (door to : Door) → HasIt (cond (nat_lt next WORN_NUMBER) (Admit door to) (Replied SaysWorn))
  admitted_so door to = either_way HasIt (nat_lt next WORN_NUMBER) (Admit door to) (Replied SaysWorn) (λ e. tt) (λ e. inr (no_lower next WORN_NUMBER e))

  door_so : (door : Door) → FoundDoor found me.tenant door → door.used ≤ me.quota → HasIt (door_read me next door)
  door_so door there most =
      either_way (λ says. HasIt (admitted next door says)) door.fault _ _ (λ e. inl (record { door = door; there = there; fault = e }))
      (λ e. either_way (λ says. HasIt (admitted next door says)) (nat_lt door.used me.quota) _ _ (λ d. admitted_so door _)
      (λ d. record { door = door; there = there; no_fault = e; full = let least = no_lower door.used me.quota d in omega (arith, least, most) }))

  round_so : (saw_worn : Bool) → (saw_worn ≡ true → FoundWorn found) → HasIt (round_over saw_worn)
  round_so saw_worn worn = either_way HasIt saw_worn (LowerDoor (ThenReply SaysWorn)) (ScanGate 0 false) (λ e. inl (worn e)) (λ e. λ none. absurd (false_true none))

  next_gate_so : (actor : ActorState) (slot : ℕ) (saw_worn : Bool) → (saw_worn ≡ true → FoundWorn found) → HasIt (next_gate actor slot saw_worn)
  next_gate_so actor slot saw_worn worn = either_way HasIt (nat_lt (slot + 1) actor.pool) (ScanGate (slot + 1) saw_worn) (round_over saw_worn) (λ e. worn) (λ e. round_so saw_worn worn)

  claiming_so : (actor : ActorState) (slot : ℕ) (saw_worn : Bool) (gate : Gate) (claimed : Option Gate) → (saw_worn ≡ true → FoundWorn found) → FoundGate found slot gate → HasIt (claiming actor slot saw_worn gate claimed)
  claiming_so actor slot saw_worn gate (Some to) worn there = worn
  claiming_so actor slot saw_worn gate None worn there = next_gate_so actor slot (saw_worn || is_worn gate) (either_true (FoundWorn found) saw_worn (is_worn gate) worn (gate_worn found slot gate there))

  next_fill_so : (actor : ActorState) (own : Slot) (entry : ℕ) → HasIt (next_fill actor own entry)
  next_fill_so actor own entry = either_way HasIt (nat_lt (entry + 1) (length (own_entries actor))) (FillAddr own (entry + 1)) (Prepare own) (λ e. tt) (λ e. tt)

  prepared_so : (own : Slot) (went_well : Bool) → (went_well ≡ false → MetFault found) → HasIt (prepared own went_well)
  prepared_so own went_well met = either_way HasIt went_well (ReadTargetStatus (alone own)) (GiveUp own SaysFault) (λ e. tt) (λ e. inr (met e))

  -- How it lets its slot go, gives up, and ends.

  works_so : (task : Task) → HasIt (works task)
  works_so task = either_way HasIt (is_alone task) (ReadTargetStatus task) (ReadCount task) (λ e. tt) (λ e. tt)

  resumed_so : (onward : After) → HasEvidenceAfter found next me.tenant me.quota onward → HasIt (resumed onward)
  resumed_so (Work task) fresh = works_so task
  resumed_so (ThenGiveUp own undecided) fresh = fresh
  resumed_so (ThenReply reply) fresh = fresh

  unpinned_so : (slot : Slot) (onward : After) (gate : Gate) → HasEvidenceAfter found next me.tenant me.quota onward → HasIt (unpinned slot onward gate)
  unpinned_so slot onward gate fresh = either_way HasIt (gate.pins == 1) (FreeSlot slot onward) (resumed onward) (λ e. fresh) (λ e. resumed_so onward fresh)

  gives_up_so : (task : Task) (undecided : Reply) → HasEvidenceBy found next me.tenant me.quota undecided → HasIt (gives_up task undecided)
  gives_up_so task undecided fresh = either_way HasIt (is_alone task) (GiveUp task.own undecided) (Unpin task.target (ThenGiveUp task.own undecided)) (λ e. fresh) (λ e. fresh)

  gave_up_so : (actor : ActorState) (undecided : Reply) (status : Status) → HasEvidenceBy found next me.tenant me.quota undecided → HasEvidenceBy found next me.tenant me.quota (gave_up actor undecided status)
  gave_up_so actor undecided Draft fresh = fresh
  gave_up_so actor undecided Open fresh = fresh
  gave_up_so actor undecided YesDirty fresh = fresh
  gave_up_so actor undecided Yes fresh = tt
  gave_up_so actor undecided DoneYes fresh = tt
  gave_up_so actor undecided (No entry value) fresh = tt
  gave_up_so actor undecided (DoneNo entry value) fresh = tt

  finishes_so : (task : Task) (reply : Reply) → HasEvidenceBy found next me.tenant me.quota reply → HasIt (finishes task reply)
  finishes_so task reply fresh = either_way HasIt (is_alone task) (Unpin task.own (ThenReply reply)) (Unpin task.target (Work (alone task.own))) (λ e. fresh) (λ e. tt)

  -- How it works on its own change and on others'.

  turns_to_so : (task : Task) (other : Slot) → HasIt (turns_to task other)
  turns_to_so task other =
      let next : Task = record { own = task.own; target = other } in
      either_way HasIt (is_alone task) (works next) (Unpin task.target (Work next)) (λ e. works_so next) (λ e. tt)

  helps_so : (task : Task) (other : Slot) → HasIt (helps task other)
  helps_so task other = either_way HasIt (same_slot other task.own) (turns_to task task.own) (ReadOtherGate task other) (λ e. turns_to_so task task.own) (λ e. tt)

  pinned_so : (task : Task) (other : Slot) (gate : Gate) (next : Option Gate) → HasIt (pinned task other gate next)
  pinned_so task other gate (Some to) = tt
  pinned_so task other gate None = tt

  other_gate_so : (task : Task) (other : Slot) (gate : Gate) → HasIt (other_gate_read task other gate)
  other_gate_so task other gate = either_way HasIt (nat_lt other.seq WORN_NUMBER) (pinned task other gate _) (ReadTargetStatus task) (λ e. pinned_so task other gate _) (λ e. tt)

  count_so : (task : Task) (count : ℕ) → HasIt (count_read task count)
  count_so task count = either_way HasIt (nat_le 1 count && nat_le count MAX_ENTRIES) (ReadAddr task count) (ReadCount task) (λ e. tt) (λ e. tt)

  addr_so : (task : Task) (count addr : ℕ) → HasIt (addr_read task count addr)
  addr_so task count addr = either_way HasIt (nat_lt addr MAX_WORDS) (ReadExpected task count addr) (ReadAddr task count) (λ e. tt) (λ e. tt)

  expected_so : (task : Task) (count addr expected : ℕ) → HasIt (expected_read task count addr expected)
  expected_so task count addr expected = either_way HasIt (nat_le expected MAX_VALUE) (ReadNew task count addr expected) (ReadExpected task count addr) (λ e. tt) (λ e. tt)

  next_read_so : (actor : ActorState) (task : Task) (count : ℕ) → HasIt (next_read actor task count)
  next_read_so actor task count = either_way HasIt (nat_lt (length actor.others + 1) count) (ReadAddr task count) (ReadTargetStatus task) (λ e. tt) (λ e. tt)

  new_so : (actor : ActorState) (task : Task) (count addr expected new : ℕ) → HasIt (new_read actor task count addr expected new)
  new_so actor task count addr expected new = either_way HasIt (nat_le new MAX_VALUE) (next_read actor task count) (ReadNew task count addr expected) (λ e. next_read_so actor task count) (λ e. tt)

  status_so : (task : Task) (status : Status) → HasIt (status_read task status)
  status_so task Draft = tt
  status_so task Open = tt
  status_so task YesDirty = tt
  status_so task Yes = tt
  status_so task DoneYes = tt
  status_so task (No entry value) = tt
  status_so task (DoneNo entry value) = tt

  attempts_so : (task : Task) (entry : ℕ) → HasIt (attempts task entry next)
  attempts_so task entry = either_way HasIt (nat_lt next WORN_NUMBER) (AnnounceRow task entry next) (gives_up task SaysWorn) (λ e. tt) (λ e. gives_up_so task SaysWorn (inr (no_lower next WORN_NUMBER e)))

  dirty_seen_so : (task : Task) (entry slot value : ℕ) → HasIt (dirty_seen task entry slot value)
  dirty_seen_so task entry slot value =
      either_way HasIt (slot == task.target.slot) (ReadTargetStatus task) (cond (slot == task.own.slot) (helps task task.own) (ReadDirtyGate task entry slot value)) (λ e. tt)
      (λ e. either_way HasIt (slot == task.own.slot) (helps task task.own) (ReadDirtyGate task entry slot value) (λ d. helps_so task task.own) (λ d. tt))

  next_word_so : (actor : ActorState) (task : Task) (entry : ℕ) → HasIt (next_word actor task entry)
  next_word_so actor task entry = either_way HasIt (nat_lt (entry + 1) (length (entries_of actor task))) (Inspect task (entry + 1)) (DecideYes task) (λ e. tt) (λ e. tt)

  inspected_so : (actor : ActorState) (task : Task) (entry : ℕ) (word : Word) → HasIt (inspected actor next task entry word)
  inspected_so actor task entry (Plain value) = either_way HasIt (value == (entry_of actor task entry).expected) (attempts task entry next) (DecideNo task entry value) (λ e. attempts_so task entry) (λ e. tt)
  inspected_so actor task entry (Dirty slot value) = either_way HasIt (value == (entry_of actor task entry).expected) (dirty_seen task entry slot value) (DecideNo task entry value) (λ e. dirty_seen_so task entry slot value) (λ e. tt)
  inspected_so actor task entry (Held slot seq) =
      let other : Slot = record { slot = slot; seq = seq } in
      either_way HasIt (same_slot other task.target) (next_word actor task entry) (helps task other) (λ e. next_word_so actor task entry) (λ e. helps_so task other)
  inspected_so actor task entry (Planted worker number) = tt

  attempt_so : (task : Task) (entry : ℕ) (attempt : Attempt) (other : Slot) (word : Word) → HasIt (attempt_confirmed task entry attempt other word)
  attempt_so task entry attempt other word =
      either_way HasIt (same_word word (planted attempt)) (attempt_met task entry attempt other) (ReadTargetStatus task)
      (λ e. either_way HasIt (same_slot other task.target) (CheckThenResolve task entry attempt) (helps task other) (λ d. tt) (λ d. helps_so task other)) (λ e. tt)

  dirty_gate_so : (task : Task) (entry slot value : ℕ) (gate : Gate) → HasIt (dirty_gate_read task entry slot value gate)
  dirty_gate_so task entry slot value gate =
      either_way HasIt (gate.taken && nat_le 1 gate.pins) (ConfirmDirty task entry (record { slot = slot; seq = gate.seq }) value) (ReadTargetStatus task) (λ e. tt) (λ e. tt)

  dirty_so : (task : Task) (other : Slot) (value : ℕ) (word : Word) → HasIt (dirty_confirmed task other value word)
  dirty_so task other value word = either_way HasIt (same_word word (Dirty other.slot value)) (helps task other) (ReadTargetStatus task) (λ e. helps_so task other) (λ e. tt)

  filed_so : (task : Task) (went_well : Bool) → (went_well ≡ false → MetFault found) → HasIt (filed task went_well)
  filed_so task went_well met = either_way HasIt went_well (ReadTargetStatus task) (gives_up task SaysFault) (λ e. tt) (λ e. gives_up_so task SaysFault (inr (met e)))

  sweep_over_so : (actor : ActorState) (task : Task) (sweep : Sweep) → HasIt (sweep_over actor task sweep)
  sweep_over_so actor task SweepYes = tt
  sweep_over_so actor task SweepDoneYes = finishes_so task SaysYes tt
  sweep_over_so actor task SweepNo = tt
  sweep_over_so actor task (SweepDoneNo entry value) = finishes_so task (refusal actor entry value) tt

  next_sweep_so : (actor : ActorState) (task : Task) (sweep : Sweep) (entry : ℕ) → HasIt (next_sweep actor task sweep entry)
  next_sweep_so actor task sweep entry = either_way HasIt (nat_lt (entry + 1) (length (entries_of actor task))) (SweepWord task sweep (entry + 1)) (sweep_over actor task sweep) (λ e. tt) (λ e. sweep_over_so actor task sweep)

  released_so : (actor : ActorState) (task : Task) (sweep : Sweep) (entry : ℕ) (slot : Slot) → HasIt (cond (same_slot slot task.target) (Release task sweep entry) (next_sweep actor task sweep entry))
  released_so actor task sweep entry slot = either_way HasIt (same_slot slot task.target) (Release task sweep entry) (next_sweep actor task sweep entry) (λ e. tt) (λ e. next_sweep_so actor task sweep entry)

  swept_so : (actor : ActorState) (task : Task) (sweep : Sweep) (entry : ℕ) (word : Word) → HasIt (swept actor task sweep entry word)
  swept_so actor task sweep entry (Plain value) = next_sweep_so actor task sweep entry
  swept_so actor task SweepYes entry (Planted worker number) = next_sweep_so actor task SweepYes entry
  swept_so actor task SweepYes entry (Held slot seq) = released_so actor task SweepYes entry (record { slot = slot; seq = seq })
  swept_so actor task SweepYes entry (Dirty slot value) = next_sweep_so actor task SweepYes entry
  swept_so actor task SweepDoneYes entry (Planted worker number) = tt
  swept_so actor task SweepDoneYes entry (Held slot seq) = next_sweep_so actor task SweepDoneYes entry
  swept_so actor task SweepDoneYes entry (Dirty slot value) = either_way HasIt (slot == task.target.slot) (Clean task entry value) (next_sweep actor task SweepDoneYes entry) (λ e. tt) (λ e. next_sweep_so actor task SweepDoneYes entry)
  swept_so actor task SweepNo entry (Planted worker number) = tt
  swept_so actor task SweepNo entry (Held slot seq) = released_so actor task SweepNo entry (record { slot = slot; seq = seq })
  swept_so actor task SweepNo entry (Dirty slot value) = next_sweep_so actor task SweepNo entry
  swept_so actor task (SweepDoneNo index found) entry (Planted worker number) = tt
  swept_so actor task (SweepDoneNo index found) entry (Held slot seq) = released_so actor task (SweepDoneNo index found) entry (record { slot = slot; seq = seq })
  swept_so actor task (SweepDoneNo index found) entry (Dirty slot value) = next_sweep_so actor task (SweepDoneNo index found) entry

  sweep_confirmed_so : (actor : ActorState) (task : Task) (sweep : Sweep) (entry : ℕ) (attempt : Attempt) (other : Slot) (word : Word) → HasIt (sweep_confirmed actor task sweep entry attempt other word)
  sweep_confirmed_so actor task sweep entry attempt other word =
      either_way HasIt (same_word word (planted attempt) && same_slot other task.target) (SweepResolve task sweep entry attempt) (next_sweep actor task sweep entry) (λ e. tt) (λ e. next_sweep_so actor task sweep entry)

  -- What the request is told at these points is what its step found.
  abbrev pub IsTold : Point → Observation → Type 0
  IsTold (Read look) observation = IsToldOfRead found me.tenant look.point observation
  IsTold ReadDoor observation = IfDoor (λ door. FoundDoor found me.tenant door × (door.used ≤ me.quota)) observation
  IsTold (ScanGate slot saw_worn) observation = IfGate (FoundGate found slot) observation
  IsTold (Prepare own) observation = IfFiled (λ went_well. went_well ≡ false → MetFault found) observation
  IsTold (Seal task) observation = IfFiled (λ went_well. went_well ≡ false → MetFault found) observation
  IsTold (Settle task) observation = IfFiled (λ went_well. went_well ≡ false → MetFault found) observation
  IsTold point observation = Unit {0}

  -- the evidence for each point to which a request goes
  pub goes_so : (point : Point) (observation : Observation) → IsTold point observation → HasIt point → HasIt (goes me next point observation)
  goes_so (Read look) observation told has = read_so found next me.tenant me.quota look.address look.point observation told has
  goes_so ReadDoor (SawDoor door) told has = door_so door told.0 told.1
  goes_so (Admit from to) Won told has = λ none. absurd (false_true none)
  goes_so (Admit from to) Lost told has = tt
  goes_so (ScanGate slot saw_worn) (SawGate gate) told has = claiming_so me slot saw_worn gate _ has told
  goes_so (Claim slot saw_worn from to) Won told has = tt
  goes_so (Claim slot saw_worn from to) Lost told has = next_gate_so me slot saw_worn has
  goes_so (FillStatus own) Won told has = tt
  goes_so (FillCount own) Won told has = tt
  goes_so (FillAddr own entry) Won told has = tt
  goes_so (FillExpected own entry) Won told has = tt
  goes_so (FillNew own entry) Won told has = next_fill_so me own entry
  goes_so (Prepare own) (Filed went_well) told has = prepared_so own went_well told
  goes_so (ReadTargetStatus task) (SawStatus status) told has = status_so task status
  goes_so (Inspect task entry) (SawWord word) told has = inspected_so me task entry word
  goes_so (AnnounceRow task entry number) Won told has = tt
  goes_so (Plant task entry number) Won told has = tt
  goes_so (Plant task entry number) Lost told has = tt
  goes_so (ReadOtherRow task entry other) (SawRow row) told has = tt
  goes_so (ConfirmAttempt task entry number other) (SawWord word) told has = attempt_so task entry number other word
  goes_so (ReadDirtyGate task entry slot value) (SawGate gate) told has = dirty_gate_so task entry slot value gate
  goes_so (ConfirmDirty task entry other value) (SawWord word) told has = dirty_so task other value word
  goes_so (DecideYes task) Won told has = tt
  goes_so (DecideYes task) Lost told has = tt
  goes_so (DecideNo task entry value) Won told has = tt
  goes_so (DecideNo task entry value) Lost told has = tt
  goes_so (CheckThenResolve task entry number) (SawStatus status) told has = tt
  goes_so (Resolve task entry number was_open) Won told has = tt
  goes_so (Resolve task entry number was_open) Lost told has = tt
  goes_so (ReadOtherGate task other) (SawGate gate) told has = other_gate_so task other gate
  goes_so (PinOther task other from to) Won told has = turns_to_so task other
  goes_so (PinOther task other from to) Lost told has = tt
  goes_so (ReadCount task) (SawNumber count) told has = count_so task count
  goes_so (ReadAddr task count) (SawNumber addr) told has = addr_so task count addr
  goes_so (ReadExpected task count addr) (SawNumber expected) told has = expected_so task count addr expected
  goes_so (ReadNew task count addr expected) (SawNumber new) told has = new_so me task count addr expected new
  goes_so (Seal task) (Filed went_well) told has = filed_so task went_well told
  goes_so (SweepWord task sweep entry) (SawWord word) told has = swept_so me task sweep entry word
  goes_so (Release task sweep entry) Won told has = next_sweep_so me task sweep entry
  goes_so (Release task sweep entry) Lost told has = next_sweep_so me task sweep entry
  goes_so (Clean task entry value) Won told has = next_sweep_so me task SweepDoneYes entry
  goes_so (Clean task entry value) Lost told has = next_sweep_so me task SweepDoneYes entry
  goes_so (SweepRow task sweep entry number) (SawRow row) told has = tt
  goes_so (SweepConfirm task sweep entry number other) (SawWord word) told has = sweep_confirmed_so me task sweep entry number other word
  goes_so (SweepResolve task sweep entry number) Won told has = next_sweep_so me task sweep entry
  goes_so (SweepResolve task sweep entry number) Lost told has = next_sweep_so me task sweep entry
  goes_so (Settle task) (Filed went_well) told has = filed_so task went_well told
  goes_so (Cancel task) (Filed went_well) told has = tt
  goes_so (Unpin slot onward) (SawGate gate) told has = unpinned_so slot onward gate has
  goes_so (FreeSlot slot onward) Won told has = has
  goes_so (LowerDoor onward) (SawDoor door) told has = resumed_so onward has
  goes_so (GiveUp own undecided) (SawStatus status) told has = gave_up_so me undecided status has
  goes_so point observation told has = has
