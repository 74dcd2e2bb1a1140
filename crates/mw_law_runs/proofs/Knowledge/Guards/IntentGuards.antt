-- After most steps a worker has no attempt in a word and no permission to hold one. So its new intent (either of the two) has
-- its precondition. Used by: Attempts, ReadGuards, UpdateGuards.
use Rattle.std.specs.Prelude.{ℕ, ◌≡◌, ◌≢◌, ◌+◌, ◌==◌, ◌&&◌, ◌||◌, Bool, false, nat_lt, nat_le, length, Option, Some, None}
use Rattle.std.proofs.Common.{sym, ◌∙◌}
use Rattle.mw_words.specs.declared.doors.Door.{Door}
use Rattle.mw_words.specs.declared.gates.Gate.{Gate}
use Rattle.mw_words.specs.declared.limits.TheConstants.{MAX_ENTRIES, MAX_VALUE, MAX_WORDS, WORN_NUMBER}
use Rattle.mw_words.specs.declared.replies.Reply.{Reply}
use Rattle.mw_words.specs.declared.replies.Reply.TheVariants.{Yes as SaysYes, Fault as SaysFault, Worn as SaysWorn}
use Rattle.mw_words.specs.declared.statuses.Status.{Status}
use Rattle.mw_words.specs.declared.statuses.Status.TheVariants.{Draft, Open, YesDirty, Yes, No, DoneYes, DoneNo}
use Rattle.mw_words.specs.declared.words.Word.{Word}
use Rattle.mw_words.specs.declared.words.Word.TheVariants.{Plain, Planted, Held, Dirty}
use Rattle.mw_pool.specs.declared.doors.Admission.{Admission}
use Rattle.mw_pool.specs.declared.doors.Admission.TheVariants.{Fault as HasFailed, Busy as IsBusy, To}
use Rattle.mw_pool.specs.Moves.{after_admit, after_claim, after_pin}
use Rattle.mw_look.specs.declared.observations.Observation.{Observation}
use Rattle.mw_look.specs.declared.observations.Observation.TheVariants.{SawDoor, SawGate, SawRow, SawWord, SawStatus, SawNumber, Won, Lost, Filed}
use Rattle.mw_look.specs.Program.{same_word}
use Rattle.mw_look.proofs.RangeLaws.{either_way}
use Rattle.mw_actor.specs.declared.points.After.{After}
use Rattle.mw_actor.specs.declared.points.After.TheVariants.{Work, GiveUp as ThenGiveUp, Reply as ThenReply}
use Rattle.mw_actor.specs.declared.points.Attempt.{Attempt}
use Rattle.mw_actor.specs.declared.points.Point.{Point}
use Rattle.mw_actor.specs.declared.points.Point.TheVariants.{Read, ReadDoor, Admit, ScanGate, Claim, FillStatus, FillCount, FillAddr, FillExpected, FillNew, Prepare, ReadTargetStatus, Inspect, AnnounceRow, Plant, ReadOtherRow, ConfirmAttempt, ReadDirtyGate, ConfirmDirty, DecideYes, DecideNo, CheckThenResolve, Resolve, ReadOtherGate, PinOther, ReadCount, ReadAddr, ReadExpected, ReadNew, Seal, SweepWord, Release, Clean, SweepRow, SweepConfirm, SweepResolve, Settle, Cancel, Unpin, FreeSlot, LowerDoor, GiveUp, Replied}
use Rattle.mw_actor.specs.declared.points.Slot.{Slot}
use Rattle.mw_actor.specs.declared.points.Sweep.{Sweep}
use Rattle.mw_actor.specs.declared.points.Sweep.TheVariants.{Yes as SweepYes, DoneYes as SweepDoneYes, No as SweepNo, DoneNo as SweepDoneNo}
use Rattle.mw_actor.specs.declared.points.Task.{Task}
use Rattle.mw_actor.specs.ActorState.{ActorState, own_entries, entries_of, entry_of, is_alone, alone, same_slot, planted}
use Rattle.mw_actor.specs.Admission.{admitted, round_over, next_gate, is_worn, claiming}
use Rattle.mw_actor.specs.RequestEnds.{works, resumed, gives_up, finishes, refusal}
use Rattle.mw_actor.specs.Help.{turns_to, helps, pinned, next_read}
use Rattle.mw_actor.specs.Inspection.{status_read, next_word, attempts, dirty_seen, held_seen, inspected}
use Rattle.mw_actor.specs.Program.{goes}
use Rattle.mw_actor.specs.ReleasePhase.{sweep_over, next_sweep, held_swept, dirty_swept, attempt_swept, swept}
use Rattle.mw_world.specs.Definition.History.{NoAttempt, AttemptIn, Idle, Permitted, standing_at, permission_at}
use Rattle.mw_world.specs.Definition.State.{State}
use Rattle.mw_law_runs.specs.Moves.Guards.{MaySetIntent}

pub rests_not : {tenant address number : ℕ} → NoAttempt ≡ AttemptIn tenant address number → ⊥
rests_not e = cc

pub idles_not : {tenant address worker number slot seq : ℕ} → Idle ≡ Permitted tenant address worker number slot seq → ⊥
idles_not e = cc

-- a worker may give up its standing attempt if that is in no word
pub may_forget : (state : State) (by : ℕ)
    → ((tenant address number : ℕ) → state.history.standing by ≡ AttemptIn tenant address number → state.cells.words tenant address ≢ Planted by number)
    → MaySetIntent state by NoAttempt Idle
may_forget state by was_released = record {
  still = λ tenant address number is stands. absurd (was_released tenant address number is stands);
  was_given = λ tenant address number is. absurd (rests_not is);
  ready = λ tenant address number is. absurd (rests_not is);
  permissions = λ tenant address other number slot seq is. absurd (idles_not is);
}

-- the same if it has none
pub may_rest : (state : State) (by : ℕ) → state.history.standing by ≡ NoAttempt → MaySetIntent state by NoAttempt Idle
may_rest state by rests = may_forget state by (λ tenant address number is stands. rests_not (sym rests ∙ is))

-- The step isn't one of the few after which a worker may have a standing attempt.
abbrev pub Rests : Point → Observation → Type 0
Rests (Plant task entry number) Won = ⊥
Rests (ConfirmAttempt task entry attempt other) observation = ⊥
Rests (CheckThenResolve task entry attempt) observation = ⊥
Rests (Resolve task entry attempt was_open) Won = Unit {0}
Rests (Resolve task entry attempt was_open) Lost = Unit {0}
Rests (Resolve task entry attempt was_open) observation = ⊥
Rests point observation = Unit {0}

-- The precondition of the intent holds at each next point without a standing attempt and a permission.
module _ (state : State) (by : ℕ) (rest : MaySetIntent state by NoAttempt Idle) (who actor : ActorState) where
  abbrev At : Point → Type 0
  At point = MaySetIntent state by (standing_at who point) (permission_at who point)

  admitted_rest : (next : ℕ) (door : Door) (says : Admission) → At (admitted next door says)
  admitted_rest next door HasFailed = rest
  admitted_rest next door IsBusy = rest
  admitted_rest next door (To to) = either_way At (nat_lt next WORN_NUMBER) (Admit door to) (Replied SaysWorn) (λ low. rest) (λ worn. rest)

  next_gate_rest : (slot : ℕ) (saw_worn : Bool) → At (next_gate actor slot saw_worn)
  next_gate_rest slot saw_worn =
      either_way At (nat_lt (slot + 1) actor.pool) (ScanGate (slot + 1) saw_worn) (round_over saw_worn) (λ more. rest)
      (λ last. either_way At saw_worn (LowerDoor (ThenReply SaysWorn)) (ScanGate 0 false) (λ worn. rest) (λ again. rest))

  claiming_rest : (slot : ℕ) (saw_worn : Bool) (gate : Gate) (to : Option Gate) → At (claiming actor slot saw_worn gate to)
  claiming_rest slot saw_worn gate (Some to) = rest
  claiming_rest slot saw_worn gate None = next_gate_rest slot (saw_worn || is_worn gate)

  works_rest : (task : Task) → At (works task)
  works_rest task = either_way At (is_alone task) (ReadTargetStatus task) (ReadCount task) (λ own. rest) (λ other. rest)

  resumed_rest : (onward : After) → At (resumed onward)
  resumed_rest (Work task) = works_rest task
  resumed_rest (ThenGiveUp own undecided) = rest
  resumed_rest (ThenReply reply) = rest

  turns_rest : (task : Task) (other : Slot) → At (turns_to task other)
  turns_rest task other =
      let next : Task = record { own = task.own; target = other } in
      either_way At (is_alone task) (works next) (Unpin task.target (Work next)) (λ own. works_rest next) (λ apart. rest)

  pub helps_rest : (task : Task) (other : Slot) → At (helps task other)
  helps_rest task other = either_way At (same_slot other task.own) (turns_to task task.own) (ReadOtherGate task other) (λ own. turns_rest task task.own) (λ apart. rest)

  gives_up_rest : (task : Task) (undecided : Reply) → At (gives_up task undecided)
  gives_up_rest task undecided =
      either_way At (is_alone task) (GiveUp task.own undecided) (Unpin task.target (ThenGiveUp task.own undecided)) (λ own. rest) (λ other. rest)

  finishes_rest : (task : Task) (reply : Reply) → At (finishes task reply)
  finishes_rest task reply =
      either_way At (is_alone task) (Unpin task.own (ThenReply reply)) (Unpin task.target (Work (alone task.own))) (λ own. rest) (λ other. rest)

  pinned_rest : (task : Task) (other : Slot) (gate : Gate) (to : Option Gate) → At (pinned task other gate to)
  pinned_rest task other gate (Some to) = rest
  pinned_rest task other gate None = rest

  next_read_rest : (task : Task) (count : ℕ) → At (next_read actor task count)
  next_read_rest task count = either_way At (nat_lt (length actor.others + 1) count) (ReadAddr task count) (ReadTargetStatus task) (λ more. rest) (λ last. rest)

  status_rest : (task : Task) (status : Status) → At (status_read task status)
  status_rest task Draft = rest
  status_rest task Open = rest
  status_rest task YesDirty = rest
  status_rest task Yes = rest
  status_rest task DoneYes = rest
  status_rest task (No entry value) = rest
  status_rest task (DoneNo entry value) = rest

  next_word_rest : (task : Task) (entry : ℕ) → At (next_word actor task entry)
  next_word_rest task entry =
      either_way At (nat_lt (entry + 1) (length (entries_of actor task))) (Inspect task (entry + 1)) (DecideYes task) (λ more. rest) (λ last. rest)

  attempts_rest : (task : Task) (entry next : ℕ) → At (attempts task entry next)
  attempts_rest task entry next =
      either_way At (nat_lt next WORN_NUMBER) (AnnounceRow task entry next) (gives_up task SaysWorn) (λ low. rest) (λ worn. gives_up_rest task SaysWorn)

  dirty_seen_rest : (task : Task) (entry slot value : ℕ) → At (dirty_seen task entry slot value)
  dirty_seen_rest task entry slot value =
      either_way At (slot == task.target.slot) (ReadTargetStatus task) _ (λ same. rest)
      (λ apart. either_way At (slot == task.own.slot) (helps task task.own) (ReadDirtyGate task entry slot value) (λ own. helps_rest task task.own) (λ other. rest))

  held_seen_rest : (task : Task) (entry : ℕ) (other : Slot) → At (held_seen actor task entry other)
  held_seen_rest task entry other =
      either_way At (same_slot other task.target) (next_word actor task entry) (helps task other) (λ same. next_word_rest task entry) (λ apart. helps_rest task other)

  inspected_rest : (next : ℕ) (task : Task) (entry : ℕ) (word : Word) → At (inspected actor next task entry word)
  inspected_rest next task entry (Plain value) =
      either_way At (value == (entry_of actor task entry).expected) (attempts task entry next) (DecideNo task entry value) (λ same. attempts_rest task entry next) (λ other. rest)
  inspected_rest next task entry (Dirty slot value) =
      either_way At (value == (entry_of actor task entry).expected) (dirty_seen task entry slot value) (DecideNo task entry value)
      (λ same. dirty_seen_rest task entry slot value) (λ other. rest)
  inspected_rest next task entry (Held slot seq) = held_seen_rest task entry (record { slot = slot; seq = seq })
  inspected_rest next task entry (Planted worker number) = rest

  sweep_over_rest : (task : Task) (sweep : Sweep) → At (sweep_over actor task sweep)
  sweep_over_rest task SweepYes = rest
  sweep_over_rest task SweepDoneYes = finishes_rest task SaysYes
  sweep_over_rest task SweepNo = rest
  sweep_over_rest task (SweepDoneNo entry value) = finishes_rest task (refusal actor entry value)

  next_sweep_rest : (task : Task) (sweep : Sweep) (entry : ℕ) → At (next_sweep actor task sweep entry)
  next_sweep_rest task sweep entry =
      either_way At (nat_lt (entry + 1) (length (entries_of actor task))) (SweepWord task sweep (entry + 1)) (sweep_over actor task sweep) (λ more. rest)
      (λ last. sweep_over_rest task sweep)

  held_swept_rest : (task : Task) (sweep : Sweep) (entry : ℕ) (slot : Slot) → At (held_swept actor task sweep entry slot)
  held_swept_rest task SweepDoneYes entry slot = next_sweep_rest task SweepDoneYes entry
  held_swept_rest task SweepYes entry slot =
      either_way At (same_slot slot task.target) (Release task SweepYes entry) (next_sweep actor task SweepYes entry) (λ same. rest) (λ apart. next_sweep_rest task SweepYes entry)
  held_swept_rest task SweepNo entry slot =
      either_way At (same_slot slot task.target) (Release task SweepNo entry) (next_sweep actor task SweepNo entry) (λ same. rest) (λ apart. next_sweep_rest task SweepNo entry)
  held_swept_rest task (SweepDoneNo at value) entry slot =
      either_way At (same_slot slot task.target) (Release task (SweepDoneNo at value) entry) (next_sweep actor task (SweepDoneNo at value) entry)
      (λ same. rest) (λ apart. next_sweep_rest task (SweepDoneNo at value) entry)

  dirty_swept_rest : (task : Task) (sweep : Sweep) (entry slot value : ℕ) → At (dirty_swept actor task sweep entry slot value)
  dirty_swept_rest task SweepDoneYes entry slot value =
      either_way At (slot == task.target.slot) (Clean task entry value) (next_sweep actor task SweepDoneYes entry) (λ same. rest) (λ apart. next_sweep_rest task SweepDoneYes entry)
  dirty_swept_rest task SweepYes entry slot value = next_sweep_rest task SweepYes entry
  dirty_swept_rest task SweepNo entry slot value = next_sweep_rest task SweepNo entry
  dirty_swept_rest task (SweepDoneNo at found) entry slot value = next_sweep_rest task (SweepDoneNo at found) entry

  attempt_swept_rest : (task : Task) (sweep : Sweep) (entry : ℕ) (attempt : Attempt) → At (attempt_swept actor task sweep entry attempt)
  attempt_swept_rest task SweepYes entry attempt = next_sweep_rest task SweepYes entry
  attempt_swept_rest task SweepDoneYes entry attempt = rest
  attempt_swept_rest task SweepNo entry attempt = rest
  attempt_swept_rest task (SweepDoneNo at value) entry attempt = rest

  swept_rest : (task : Task) (sweep : Sweep) (entry : ℕ) (word : Word) → At (swept actor task sweep entry word)
  swept_rest task sweep entry (Plain value) = next_sweep_rest task sweep entry
  swept_rest task sweep entry (Planted worker number) = attempt_swept_rest task sweep entry (record { worker = worker; number = number })
  swept_rest task sweep entry (Held slot seq) = held_swept_rest task sweep entry (record { slot = slot; seq = seq })
  swept_rest task sweep entry (Dirty slot value) = dirty_swept_rest task sweep entry slot value

  filed_rest : (task : Task) (went_well : Bool) → At (goes actor 0 (Seal task) (Filed went_well))
  filed_rest task went_well = either_way At went_well (ReadTargetStatus task) (gives_up task SaysFault) (λ well. rest) (λ failed. gives_up_rest task SaysFault)

  pub goes_rest : (next : ℕ) (point : Point) (observation : Observation) → Rests point observation → At (goes actor next point observation)
  goes_rest next (Read look) observation plain = rest
  goes_rest next ReadDoor (SawDoor door) plain = admitted_rest next door (after_admit door actor.quota)
  goes_rest next (Admit from to) Won plain = rest
  goes_rest next (Admit from to) Lost plain = rest
  goes_rest next (ScanGate slot saw_worn) (SawGate gate) plain = claiming_rest slot saw_worn gate (after_claim gate)
  goes_rest next (Claim slot saw_worn from to) Won plain = rest
  goes_rest next (Claim slot saw_worn from to) Lost plain = next_gate_rest slot saw_worn
  goes_rest next (FillStatus own) Won plain = rest
  goes_rest next (FillCount own) Won plain = rest
  goes_rest next (FillAddr own entry) Won plain = rest
  goes_rest next (FillExpected own entry) Won plain = rest
  goes_rest next (FillNew own entry) Won plain =
      either_way At (nat_lt (entry + 1) (length (own_entries actor))) (FillAddr own (entry + 1)) (Prepare own) (λ more. rest) (λ last. rest)
  goes_rest next (Prepare own) (Filed went_well) plain =
      either_way At went_well (ReadTargetStatus (alone own)) (GiveUp own SaysFault) (λ well. rest) (λ failed. rest)
  goes_rest next (ReadTargetStatus task) (SawStatus status) plain = status_rest task status
  goes_rest next (Inspect task entry) (SawWord word) plain = inspected_rest next task entry word
  goes_rest next (AnnounceRow task entry number) Won plain = rest
  goes_rest next (Plant task entry number) Lost plain = rest
  goes_rest next (Plant task entry number) Won plain = absurd plain
  goes_rest next (ReadOtherRow task entry attempt) (SawRow row) plain = rest
  goes_rest next (ConfirmAttempt task entry attempt other) observation plain = absurd plain
  goes_rest next (ReadDirtyGate task entry slot value) (SawGate gate) plain =
      either_way At (gate.taken && nat_le 1 gate.pins) (ConfirmDirty task entry (record { slot = slot; seq = gate.seq }) value) (ReadTargetStatus task) (λ taken. rest) (λ was_released. rest)
  goes_rest next (ConfirmDirty task entry other value) (SawWord word) plain =
      either_way At (same_word word (Dirty other.slot value)) (helps task other) (ReadTargetStatus task) (λ same. helps_rest task other) (λ was_released. rest)
  goes_rest next (DecideYes task) Won plain = rest
  goes_rest next (DecideYes task) Lost plain = rest
  goes_rest next (DecideNo task entry value) Won plain = rest
  goes_rest next (DecideNo task entry value) Lost plain = rest
  goes_rest next (CheckThenResolve task entry attempt) observation plain = absurd plain
  goes_rest next (Resolve task entry attempt was_open) Won plain = rest
  goes_rest next (Resolve task entry attempt was_open) Lost plain = rest
  goes_rest next (Resolve task entry attempt was_open) observation plain = absurd plain
  goes_rest next (ReadOtherGate task other) (SawGate gate) plain =
      either_way At (nat_lt other.seq WORN_NUMBER) (pinned task other gate (after_pin gate other.seq)) (ReadTargetStatus task)
      (λ low. pinned_rest task other gate (after_pin gate other.seq)) (λ worn. rest)
  goes_rest next (PinOther task other from to) Won plain = turns_rest task other
  goes_rest next (PinOther task other from to) Lost plain = rest
  goes_rest next (ReadCount task) (SawNumber count) plain =
      either_way At (nat_le 1 count && nat_le count MAX_ENTRIES) (ReadAddr task count) (ReadCount task) (λ so_many. rest) (λ other. rest)
  goes_rest next (ReadAddr task count) (SawNumber addr) plain =
      either_way At (nat_lt addr MAX_WORDS) (ReadExpected task count addr) (ReadAddr task count) (λ low. rest) (λ high. rest)
  goes_rest next (ReadExpected task count addr) (SawNumber expected) plain =
      either_way At (nat_le expected MAX_VALUE) (ReadNew task count addr expected) (ReadExpected task count addr) (λ low. rest) (λ high. rest)
  goes_rest next (ReadNew task count addr expected) (SawNumber new) plain =
      either_way At (nat_le new MAX_VALUE) (next_read actor task count) (ReadNew task count addr expected) (λ low. next_read_rest task count) (λ high. rest)
  goes_rest next (Seal task) (Filed went_well) plain = filed_rest task went_well
  goes_rest next (SweepWord task sweep entry) (SawWord word) plain = swept_rest task sweep entry word
  goes_rest next (Release task sweep entry) Won plain = next_sweep_rest task sweep entry
  goes_rest next (Release task sweep entry) Lost plain = next_sweep_rest task sweep entry
  goes_rest next (Clean task entry value) Won plain = next_sweep_rest task SweepDoneYes entry
  goes_rest next (Clean task entry value) Lost plain = next_sweep_rest task SweepDoneYes entry
  goes_rest next (SweepRow task sweep entry attempt) (SawRow row) plain = rest
  goes_rest next (SweepConfirm task sweep entry attempt other) (SawWord word) plain =
      either_way At (same_word word (planted attempt) && same_slot other task.target) (SweepResolve task sweep entry attempt) (next_sweep actor task sweep entry)
      (λ same. rest) (λ was_released. next_sweep_rest task sweep entry)
  goes_rest next (SweepResolve task sweep entry attempt) Won plain = next_sweep_rest task sweep entry
  goes_rest next (SweepResolve task sweep entry attempt) Lost plain = next_sweep_rest task sweep entry
  goes_rest next (Settle task) (Filed went_well) plain = filed_rest task went_well
  goes_rest next (Cancel task) (Filed went_well) plain = rest
  goes_rest next (Unpin slot onward) (SawGate gate) plain =
      either_way At (gate.pins == 1) (FreeSlot slot onward) (resumed onward) (λ last. rest) (λ more. resumed_rest onward)
  goes_rest next (FreeSlot slot onward) Won plain = rest
  goes_rest next (LowerDoor onward) (SawDoor door) plain = resumed_rest onward
  goes_rest next (GiveUp own undecided) (SawStatus status) plain = rest
  goes_rest next point observation plain = rest
