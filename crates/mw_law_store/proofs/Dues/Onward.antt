-- A request that works on a change still has its own change at its next point, or that change is finished and has its reply.
-- Used by: StepEnds, Steps, ReservedSteps, among others.
use Rattle.std.specs.Prelude.{ℕ, ◌≡◌, ◌+◌, ◌==◌, ◌&&◌, Bool, true, false, cond, nat_lt, nat_le, Option, Some, None, length}
use Rattle.std.proofs.Common.{refl}
use Rattle.mw_words.specs.declared.limits.TheConstants.{MAX_ENTRIES, MAX_VALUE, MAX_WORDS, WORN_NUMBER}
use Rattle.mw_words.specs.declared.gates.Gate.{Gate}
use Rattle.mw_words.specs.declared.replies.Reply.{Reply}
use Rattle.mw_words.specs.declared.replies.Reply.TheVariants.{Yes as SaysYes, Fault as SaysFault, Worn as SaysWorn}
use Rattle.mw_words.specs.declared.statuses.Status.{Status}
use Rattle.mw_words.specs.declared.statuses.Status.TheVariants.{Draft, Open, YesDirty, Yes, No, DoneYes, DoneNo}
use Rattle.mw_words.specs.declared.words.Word.{Word}
use Rattle.mw_words.specs.declared.words.Word.TheVariants.{Plain, Planted, Held, Dirty}
use Rattle.mw_pool.specs.Moves.{after_pin}
use Rattle.mw_look.proofs.RangeLaws.{either_way}
use Rattle.mw_look.specs.Program.{same_word}
use Rattle.mw_actor.specs.declared.points.After.TheVariants.{Work, GiveUp as ThenGiveUp, Reply as ThenReply}
use Rattle.mw_actor.specs.declared.points.Attempt.{Attempt}
use Rattle.mw_actor.specs.declared.points.Point.{Point}
use Rattle.mw_actor.specs.declared.points.Point.TheVariants.{ReadTargetStatus, Inspect, AnnounceRow, ReadDirtyGate, ConfirmDirty, DecideYes, DecideNo, CheckThenResolve, ReadOtherGate, ReadCount, ReadAddr, ReadExpected, ReadNew, SweepWord, Release, Clean, SweepResolve, FillAddr, Prepare, Unpin, GiveUp}
use Rattle.mw_actor.specs.declared.points.Slot.{Slot}
use Rattle.mw_actor.specs.declared.points.Sweep.{Sweep}
use Rattle.mw_actor.specs.declared.points.Sweep.TheVariants.{Yes as SweepYes, DoneYes as SweepDoneYes, No as SweepNo, DoneNo as SweepDoneNo}
use Rattle.mw_actor.specs.declared.points.Task.{Task}
use Rattle.mw_actor.specs.ActorState.{ActorState, own_entries, is_alone, alone, entries_of, entry_of, same_slot, planted}
use Rattle.mw_actor.specs.Admission.{next_fill, prepared}
use Rattle.mw_actor.specs.RequestEnds.{works, gives_up, refusal, finishes}
use Rattle.mw_actor.specs.Help.{turns_to, helps, pinned, other_gate_read, count_read, addr_read, expected_read, next_read, new_read}
use Rattle.mw_actor.specs.Inspection.{status_read, next_word, attempts, dirty_seen, held_seen, inspected, attempt_met, attempt_confirmed, dirty_gate_read, dirty_confirmed}
use Rattle.mw_actor.specs.ReleasePhase.{filed, sweep_over, next_sweep, swept, sweep_confirmed}
use Rattle.mw_world.specs.declared.step_labels.StepLabel.TheVariants.{Nothing}
use Rattle.mw_world.specs.Definition.StepLabels.{inspect_label}
use Rattle.mw_law_runs.specs.Obligations.{own_of}
use Rattle.mw_law_store.proofs.ReachablePoints.{is_no_answer, is_reachable_then, is_reachable}
use Rattle.mw_law_store.specs.Due.{Works, Answers, due_reply, due, Elsewhere, lowers}

-- A point of a request with this own change: it still works on a change; or it takes back the pin of its own change, and then has
-- this reply.
pub data Onward (own : Slot) (after : Point) : Type 0 where
  Going : due after ≡ Works → own_of after ≡ Some own → lowers after ≡ Elsewhere → inspect_label after ≡ Nothing → is_reachable after ≡ true → Onward own after
  Finishing : (reply : Reply) → after ≡ Unpin own (ThenReply reply) → due_reply reply ≡ Answers reply → is_reachable after ≡ true → Onward own after

-- while a request writes down its own change
pub next_fill_goes : (actor : ActorState) (own : Slot) (entry : ℕ) → Onward own (next_fill actor own entry)
next_fill_goes actor own entry =
    either_way (Onward own) (nat_lt (entry + 1) (length (own_entries actor))) (FillAddr own (entry + 1)) (Prepare own) (λ e. Going refl refl refl refl refl) (λ e. Going refl refl refl refl refl)

pub prepared_goes : (own : Slot) (went_well : Bool) → Onward own (prepared own went_well)
prepared_goes own true = Going refl refl refl refl refl
prepared_goes own false = Going refl refl refl refl refl

-- when the work on a change begins, is left, or ends
pub works_goes_on : (task : Task) → Onward task.own (works task)
works_goes_on task = either_way (Onward task.own) (is_alone task) (ReadTargetStatus task) (ReadCount task) (λ e. Going refl refl refl refl refl) (λ e. Going refl refl refl refl refl)

pub gives_up_goes : (task : Task) (undecided : Reply) → is_no_answer undecided ≡ true → Onward task.own (gives_up task undecided)
gives_up_goes task undecided meant =
    either_way (Onward task.own) (is_alone task) (GiveUp task.own undecided) (Unpin task.target (ThenGiveUp task.own undecided)) (λ e. Going refl refl refl refl meant) (λ e. Going refl refl refl refl meant)

finishes_goes : (task : Task) (reply : Reply) → due_reply reply ≡ Answers reply → is_reachable_then (ThenReply reply) ≡ true → Onward task.own (finishes task reply)
finishes_goes task reply is meant =
    either_way (Onward task.own) (is_alone task) (Unpin task.own (ThenReply reply)) (Unpin task.target (Work (alone task.own))) (λ e. Finishing reply refl is meant) (λ e. Going refl refl refl refl refl)

pub turns_goes : (task : Task) (other : Slot) → Onward task.own (turns_to task other)
turns_goes task other =
    let next : Task = record { own = task.own; target = other } in
    either_way (Onward task.own) (is_alone task) (works next) (Unpin task.target (Work next)) (λ e. works_goes_on next) (λ e. Going refl refl refl refl refl)

helps_goes : (task : Task) (other : Slot) → Onward task.own (helps task other)
helps_goes task other = either_way (Onward task.own) (same_slot other task.own) (turns_to task task.own) (ReadOtherGate task other) (λ e. turns_goes task task.own) (λ e. Going refl refl refl refl refl)

-- when another's change is read
pinned_goes : (task : Task) (other : Slot) (gate : Gate) (next : Option Gate) → Onward task.own (pinned task other gate next)
pinned_goes task other gate (Some to) = Going refl refl refl refl refl
pinned_goes task other gate None = Going refl refl refl refl refl

pub other_gate_goes : (task : Task) (other : Slot) (gate : Gate) → Onward task.own (other_gate_read task other gate)
other_gate_goes task other gate =
    either_way (Onward task.own) (nat_lt other.seq WORN_NUMBER) (pinned task other gate (after_pin gate other.seq)) (ReadTargetStatus task) (λ e. pinned_goes task other gate (after_pin gate other.seq)) (λ e. Going refl refl refl refl refl)

pub count_goes : (task : Task) (count : ℕ) → Onward task.own (count_read task count)
count_goes task count =
    either_way (Onward task.own) (nat_le 1 count && nat_le count MAX_ENTRIES) (ReadAddr task count) (ReadCount task) (λ e. Going refl refl refl refl refl) (λ e. Going refl refl refl refl refl)

pub addr_goes : (task : Task) (count addr : ℕ) → Onward task.own (addr_read task count addr)
addr_goes task count addr =
    either_way (Onward task.own) (nat_lt addr MAX_WORDS) (ReadExpected task count addr) (ReadAddr task count) (λ e. Going refl refl refl refl refl) (λ e. Going refl refl refl refl refl)

pub expected_goes : (task : Task) (count addr expected : ℕ) → Onward task.own (expected_read task count addr expected)
expected_goes task count addr expected =
    either_way (Onward task.own) (nat_le expected MAX_VALUE) (ReadNew task count addr expected) (ReadExpected task count addr) (λ e. Going refl refl refl refl refl) (λ e. Going refl refl refl refl refl)

pub new_goes : (actor : ActorState) (task : Task) (count addr expected new : ℕ) → Onward task.own (new_read actor task count addr expected new)
new_goes actor task count addr expected new =
    either_way (Onward task.own) (nat_le new MAX_VALUE) (next_read actor task count) (ReadNew task count addr expected)
    (λ e. either_way (Onward task.own) (nat_lt (length actor.others + 1) count) (ReadAddr task count) (ReadTargetStatus task) (λ d. Going refl refl refl refl refl) (λ d. Going refl refl refl refl refl))
    (λ e. Going refl refl refl refl refl)

-- when the words of an open change are inspected
pub status_goes : (task : Task) (status : Status) → Onward task.own (status_read task status)
status_goes task Draft = Going refl refl refl refl refl
status_goes task Open = Going refl refl refl refl refl
status_goes task YesDirty = Going refl refl refl refl refl
status_goes task Yes = Going refl refl refl refl refl
status_goes task DoneYes = Going refl refl refl refl refl
status_goes task (No entry value) = Going refl refl refl refl refl
status_goes task (DoneNo entry value) = Going refl refl refl refl refl

attempts_goes : (task : Task) (entry next : ℕ) → Onward task.own (attempts task entry next)
attempts_goes task entry next =
    either_way (Onward task.own) (nat_lt next WORN_NUMBER) (AnnounceRow task entry next) (gives_up task SaysWorn) (λ e. Going refl refl refl refl refl) (λ e. gives_up_goes task SaysWorn refl)

dirty_seen_goes : (task : Task) (entry slot value : ℕ) → Onward task.own (dirty_seen task entry slot value)
dirty_seen_goes task entry slot value =
    either_way (Onward task.own) (slot == task.target.slot) (ReadTargetStatus task) (cond (slot == task.own.slot) (helps task task.own) (ReadDirtyGate task entry slot value)) (λ e. Going refl refl refl refl refl)
    (λ e. either_way (Onward task.own) (slot == task.own.slot) (helps task task.own) (ReadDirtyGate task entry slot value) (λ d. helps_goes task task.own) (λ d. Going refl refl refl refl refl))

held_seen_goes : (actor : ActorState) (task : Task) (entry : ℕ) (other : Slot) → Onward task.own (held_seen actor task entry other)
held_seen_goes actor task entry other =
    either_way (Onward task.own) (same_slot other task.target) (next_word actor task entry) (helps task other)
    (λ e. either_way (Onward task.own) (nat_lt (entry + 1) (length (entries_of actor task))) (Inspect task (entry + 1)) (DecideYes task) (λ d. Going refl refl refl refl refl) (λ d. Going refl refl refl refl refl))
    (λ e. helps_goes task other)

-- The same after a word was inspected, which may decide that the change is refused.
pub data Inspected (task : Task) (entry : ℕ) (after : Point) : Type 0 where
  Looking : Onward task.own after → Inspected task entry after
  Refusing : (value : ℕ) → after ≡ DecideNo task entry value → Inspected task entry after

pub inspected_goes : (actor : ActorState) (next : ℕ) (task : Task) (entry : ℕ) (word : Word) → Inspected task entry (inspected actor next task entry word)
inspected_goes actor next task entry (Plain value) =
    either_way (Inspected task entry) (value == (entry_of actor task entry).expected) (attempts task entry next) (DecideNo task entry value) (λ e. Looking (attempts_goes task entry next)) (λ e. Refusing value refl)
inspected_goes actor next task entry (Dirty slot value) =
    either_way (Inspected task entry) (value == (entry_of actor task entry).expected) (dirty_seen task entry slot value) (DecideNo task entry value)
    (λ e. Looking (dirty_seen_goes task entry slot value)) (λ e. Refusing value refl)
inspected_goes actor next task entry (Held slot seq) = Looking (held_seen_goes actor task entry (record { slot = slot; seq = seq }))
inspected_goes actor next task entry (Planted worker number) = Looking (Going refl refl refl refl refl)

pub attempt_goes : (task : Task) (entry : ℕ) (attempt : Attempt) (other : Slot) (word : Word) → Onward task.own (attempt_confirmed task entry attempt other word)
attempt_goes task entry attempt other word =
    either_way (Onward task.own) (same_word word (planted attempt)) (attempt_met task entry attempt other) (ReadTargetStatus task)
    (λ e. either_way (Onward task.own) (same_slot other task.target) (CheckThenResolve task entry attempt) (helps task other) (λ d. Going refl refl refl refl refl) (λ d. helps_goes task other))
    (λ e. Going refl refl refl refl refl)

pub dirty_gate_goes : (task : Task) (entry slot value : ℕ) (gate : Gate) → Onward task.own (dirty_gate_read task entry slot value gate)
dirty_gate_goes task entry slot value gate =
    either_way (Onward task.own) (gate.taken && nat_le 1 gate.pins) (ConfirmDirty task entry (record { slot = slot; seq = gate.seq }) value) (ReadTargetStatus task) (λ e. Going refl refl refl refl refl) (λ e. Going refl refl refl refl refl)

pub dirty_goes : (task : Task) (other : Slot) (value : ℕ) (word : Word) → Onward task.own (dirty_confirmed task other value word)
dirty_goes task other value word = either_way (Onward task.own) (same_word word (Dirty other.slot value)) (helps task other) (ReadTargetStatus task) (λ e. helps_goes task other) (λ e. Going refl refl refl refl refl)

-- when the words of a decided change are released
pub filed_goes : (task : Task) (went_well : Bool) → Onward task.own (filed task went_well)
filed_goes task true = Going refl refl refl refl refl
filed_goes task false = gives_up_goes task SaysFault refl

sweep_over_goes : (actor : ActorState) (task : Task) (sweep : Sweep) → Onward task.own (sweep_over actor task sweep)
sweep_over_goes actor task SweepYes = Going refl refl refl refl refl
sweep_over_goes actor task SweepDoneYes = finishes_goes task SaysYes refl refl
sweep_over_goes actor task SweepNo = Going refl refl refl refl refl
sweep_over_goes actor task (SweepDoneNo entry value) = finishes_goes task (refusal actor entry value) refl refl

pub next_sweep_goes : (actor : ActorState) (task : Task) (sweep : Sweep) (entry : ℕ) → Onward task.own (next_sweep actor task sweep entry)
next_sweep_goes actor task sweep entry =
    either_way (Onward task.own) (nat_lt (entry + 1) (length (entries_of actor task))) (SweepWord task sweep (entry + 1)) (sweep_over actor task sweep) (λ e. Going refl refl refl refl refl) (λ e. sweep_over_goes actor task sweep)

release_goes : (actor : ActorState) (task : Task) (sweep : Sweep) (entry : ℕ) (slot : Slot) → Onward task.own (cond (same_slot slot task.target) (Release task sweep entry) (next_sweep actor task sweep entry))
release_goes actor task sweep entry slot =
    either_way (Onward task.own) (same_slot slot task.target) (Release task sweep entry) (next_sweep actor task sweep entry) (λ e. Going refl refl refl refl refl) (λ e. next_sweep_goes actor task sweep entry)

pub swept_goes : (actor : ActorState) (task : Task) (sweep : Sweep) (entry : ℕ) (word : Word) → Onward task.own (swept actor task sweep entry word)
swept_goes actor task sweep entry (Plain value) = next_sweep_goes actor task sweep entry
swept_goes actor task SweepYes entry (Planted worker number) = next_sweep_goes actor task SweepYes entry
swept_goes actor task SweepYes entry (Held slot seq) = release_goes actor task SweepYes entry (record { slot = slot; seq = seq })
swept_goes actor task SweepYes entry (Dirty slot value) = next_sweep_goes actor task SweepYes entry
swept_goes actor task SweepDoneYes entry (Planted worker number) = Going refl refl refl refl refl
swept_goes actor task SweepDoneYes entry (Held slot seq) = next_sweep_goes actor task SweepDoneYes entry
swept_goes actor task SweepDoneYes entry (Dirty slot value) =
    either_way (Onward task.own) (slot == task.target.slot) (Clean task entry value) (next_sweep actor task SweepDoneYes entry) (λ e. Going refl refl refl refl refl) (λ e. next_sweep_goes actor task SweepDoneYes entry)
swept_goes actor task SweepNo entry (Planted worker number) = Going refl refl refl refl refl
swept_goes actor task SweepNo entry (Held slot seq) = release_goes actor task SweepNo entry (record { slot = slot; seq = seq })
swept_goes actor task SweepNo entry (Dirty slot value) = next_sweep_goes actor task SweepNo entry
swept_goes actor task (SweepDoneNo index found) entry (Planted worker number) = Going refl refl refl refl refl
swept_goes actor task (SweepDoneNo index found) entry (Held slot seq) = release_goes actor task (SweepDoneNo index found) entry (record { slot = slot; seq = seq })
swept_goes actor task (SweepDoneNo index found) entry (Dirty slot value) = next_sweep_goes actor task (SweepDoneNo index found) entry

pub sweep_confirmed_goes : (actor : ActorState) (task : Task) (sweep : Sweep) (entry : ℕ) (attempt : Attempt) (other : Slot) (word : Word) → Onward task.own (sweep_confirmed actor task sweep entry attempt other word)
sweep_confirmed_goes actor task sweep entry attempt other word =
    either_way (Onward task.own) (same_word word (planted attempt) && same_slot other task.target) (SweepResolve task sweep entry attempt) (next_sweep actor task sweep entry)
    (λ e. Going refl refl refl refl refl) (λ e. next_sweep_goes actor task sweep entry)
