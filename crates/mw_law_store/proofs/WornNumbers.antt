-- A step brings a request on the way to WORN only if its worker's next attempt, or a gate that it meets, is worn.
-- Used by: Numbers.
use Rattle.std.specs.Prelude.{ℕ, ◌+◌, ◌<◌, ◌≡◌, ◌==◌, ◌&&◌, ◌||◌, Bool, true, false, cond, nat_lt, nat_le, length, Option, Some, None}
use Rattle.std.proofs.Common.{refl, ap, ◌∙◌, arith}
use Rattle.std.proofs.lemmas.Bool.Decides.{nat_tests}
use Rattle.mw_words.specs.declared.doors.Door.{Door}
use Rattle.mw_words.specs.declared.gates.Gate.{Gate}
use Rattle.mw_words.specs.declared.limits.TheConstants.{MAX_ENTRIES, MAX_VALUE, MAX_WORDS, WORN_NUMBER}
use Rattle.mw_words.specs.declared.replies.Reply.{Reply}
use Rattle.mw_words.specs.declared.replies.Reply.TheVariants.{Yes as SaysYes, Fault as SaysFault, Worn as SaysWorn}
use Rattle.mw_words.specs.declared.statuses.Status.{Status}
use Rattle.mw_words.specs.declared.statuses.Status.TheVariants.{Draft, Open, YesDirty, Yes, No, DoneYes, DoneNo}
use Rattle.mw_words.specs.declared.words.Word.{Word}
use Rattle.mw_words.specs.declared.words.Word.TheVariants.{Plain, Planted, Held, Dirty}
use Rattle.mw_pool.specs.declared.doors.Admission.{Admission}
use Rattle.mw_pool.specs.declared.doors.Admission.TheVariants.{Fault as HasFailed, Busy as IsBusy, To}
use Rattle.mw_pool.specs.Moves.{after_admit, after_claim, after_pin}
use Rattle.mw_look.specs.declared.observations.Observation.{Observation}
use Rattle.mw_look.specs.declared.observations.Observation.TheVariants.{SawDoor, SawGate, SawWord, SawStatus, SawRow, SawNumber, Won, Lost, Filed}
use Rattle.mw_look.specs.Program.{same_word}
use Rattle.mw_look.proofs.RangeLaws.{either_way}
use Rattle.mw_actor.specs.declared.points.After.{After}
use Rattle.mw_actor.specs.declared.points.After.TheVariants.{Work, GiveUp as ThenGiveUp, Reply as ThenReply}
use Rattle.mw_actor.specs.declared.points.Attempt.{Attempt}
use Rattle.mw_actor.specs.declared.points.Point.{Point}
use Rattle.mw_actor.specs.declared.points.Point.TheVariants.{Read, ReadDoor, Admit, ScanGate, Claim, FillStatus, FillCount, FillAddr, FillExpected, FillNew, Prepare, ReadTargetStatus, Inspect, AnnounceRow, Plant, ReadOtherRow, ConfirmAttempt, ReadDirtyGate, ConfirmDirty, DecideYes, DecideNo, CheckThenResolve, Resolve, ReadOtherGate, PinOther, ReadCount, ReadAddr, ReadExpected, ReadNew, Seal, SweepWord, Release, Clean, SweepRow, SweepConfirm, SweepResolve, Settle, Cancel, Unpin, FreeSlot, LowerDoor, GiveUp, Replied}
use Rattle.mw_actor.specs.declared.points.Slot.{Slot}
use Rattle.mw_actor.specs.declared.points.Sweep.{Sweep}
use Rattle.mw_actor.specs.declared.points.Sweep.TheVariants.{Yes as SweepYes, DoneYes as SweepDoneYes, No as SweepNo, DoneNo as SweepDoneNo}
use Rattle.mw_actor.specs.declared.points.Task.{Task}
use Rattle.mw_actor.specs.ActorState.{ActorState, own_entries, entries_of, entry_of, is_alone, alone, same_slot, planted}
use Rattle.mw_actor.specs.Admission.{admitted, round_over, next_gate, is_worn, claiming, next_fill, prepared}
use Rattle.mw_actor.specs.RequestEnds.{works, resumed, unpinned, gives_up, refusal, gave_up, finishes}
use Rattle.mw_actor.specs.Help.{turns_to, helps, pinned, other_gate_read, count_read, addr_read, expected_read, next_read, new_read}
use Rattle.mw_actor.specs.Inspection.{status_read, next_word, attempts, dirty_seen, inspected, attempt_met, attempt_confirmed, dirty_gate_read, dirty_confirmed}
use Rattle.mw_actor.specs.Program.{goes}
use Rattle.mw_actor.specs.ReleasePhase.{filed, sweep_over, next_sweep, swept, sweep_confirmed}
use Rattle.mw_world.specs.Definition.Turns.{next_attempt}
use Rattle.mw_law_store.specs.Worn.{is_worn_reply, is_worn_after, is_worn_at}
use Rattle.mw_law_store.proofs.ReadsWear.{read_fresh}

-- at this point a request is not on the way to WORN
abbrev pub IsFresh : Point → Type 0
IsFresh point = is_worn_at point ≡ false

true_false : (test : Bool) → test ≡ true → test ≡ false → ⊥
true_false true is isnt = cc
true_false false is isnt = cc

-- How a change is admitted, and finds a slot.

admitted_fresh : (next : ℕ) (door : Door) (admission : Admission) → next < WORN_NUMBER → IsFresh (admitted next door admission)
admitted_fresh next door HasFailed low = refl
admitted_fresh next door IsBusy low = refl
admitted_fresh next door (To to) low = either_way IsFresh (nat_lt next WORN_NUMBER) (Admit door to) (Replied SaysWorn) (λ e. refl) (λ e. absurd (grind (arith, nat_tests, e, low)))

round_fresh : (saw_worn : Bool) → saw_worn ≡ false → IsFresh (round_over saw_worn)
round_fresh saw_worn none = either_way IsFresh saw_worn (LowerDoor (ThenReply SaysWorn)) (ScanGate 0 false) (λ e. absurd (true_false saw_worn e none)) (λ e. refl)

next_gate_fresh : (actor : ActorState) (slot : ℕ) (saw_worn : Bool) → saw_worn ≡ false → IsFresh (next_gate actor slot saw_worn)
next_gate_fresh actor slot saw_worn none = either_way IsFresh (nat_lt (slot + 1) actor.pool) (ScanGate (slot + 1) saw_worn) (round_over saw_worn) (λ e. none) (λ e. round_fresh saw_worn none)

claiming_fresh : (actor : ActorState) (slot : ℕ) (saw_worn : Bool) (gate : Gate) (next : Option Gate) → saw_worn ≡ false → is_worn gate ≡ false → IsFresh (claiming actor slot saw_worn gate next)
claiming_fresh actor slot saw_worn gate (Some to) none whole = none
claiming_fresh actor slot saw_worn gate None none whole = next_gate_fresh actor slot (saw_worn || is_worn gate) (ap (λ b. b || is_worn gate) none ∙ whole)

next_fill_fresh : (actor : ActorState) (own : Slot) (entry : ℕ) → IsFresh (next_fill actor own entry)
next_fill_fresh actor own entry = either_way IsFresh (nat_lt (entry + 1) (length (own_entries actor))) (FillAddr own (entry + 1)) (Prepare own) (λ e. refl) (λ e. refl)

prepared_fresh : (own : Slot) (went_well : Bool) → IsFresh (prepared own went_well)
prepared_fresh own went_well = either_way IsFresh went_well (ReadTargetStatus (alone own)) (GiveUp own SaysFault) (λ e. refl) (λ e. refl)

-- How it gives back a slot, gives up, and ends.

works_fresh : (task : Task) → IsFresh (works task)
works_fresh task = either_way IsFresh (is_alone task) (ReadTargetStatus task) (ReadCount task) (λ e. refl) (λ e. refl)

resumed_fresh : (onward : After) → is_worn_after onward ≡ false → IsFresh (resumed onward)
resumed_fresh (Work task) fresh = works_fresh task
resumed_fresh (ThenGiveUp own undecided) fresh = fresh
resumed_fresh (ThenReply reply) fresh = fresh

unpinned_fresh : (slot : Slot) (onward : After) (gate : Gate) → is_worn_after onward ≡ false → IsFresh (unpinned slot onward gate)
unpinned_fresh slot onward gate fresh = either_way IsFresh (gate.pins == 1) (FreeSlot slot onward) (resumed onward) (λ e. fresh) (λ e. resumed_fresh onward fresh)

gives_up_fresh : (task : Task) (undecided : Reply) → is_worn_reply undecided ≡ false → IsFresh (gives_up task undecided)
gives_up_fresh task undecided fresh = either_way IsFresh (is_alone task) (GiveUp task.own undecided) (Unpin task.target (ThenGiveUp task.own undecided)) (λ e. fresh) (λ e. fresh)

gave_up_fresh : (actor : ActorState) (undecided : Reply) (status : Status) → is_worn_reply undecided ≡ false → is_worn_reply (gave_up actor undecided status) ≡ false
gave_up_fresh actor undecided Draft fresh = fresh
gave_up_fresh actor undecided Open fresh = fresh
gave_up_fresh actor undecided YesDirty fresh = fresh
gave_up_fresh actor undecided Yes fresh = refl
gave_up_fresh actor undecided DoneYes fresh = refl
gave_up_fresh actor undecided (No entry value) fresh = refl
gave_up_fresh actor undecided (DoneNo entry value) fresh = refl

finishes_fresh : (task : Task) (reply : Reply) → is_worn_reply reply ≡ false → IsFresh (finishes task reply)
finishes_fresh task reply fresh = either_way IsFresh (is_alone task) (Unpin task.own (ThenReply reply)) (Unpin task.target (Work (alone task.own))) (λ e. fresh) (λ e. refl)

-- How it works on its own change and on others'.

turns_to_fresh : (task : Task) (other : Slot) → IsFresh (turns_to task other)
turns_to_fresh task other =
    let next : Task = record { own = task.own; target = other } in
    either_way IsFresh (is_alone task) (works next) (Unpin task.target (Work next)) (λ e. works_fresh next) (λ e. refl)

helps_fresh : (task : Task) (other : Slot) → IsFresh (helps task other)
helps_fresh task other = either_way IsFresh (same_slot other task.own) (turns_to task task.own) (ReadOtherGate task other) (λ e. turns_to_fresh task task.own) (λ e. refl)

pinned_fresh : (task : Task) (other : Slot) (gate : Gate) (next : Option Gate) → IsFresh (pinned task other gate next)
pinned_fresh task other gate (Some to) = refl
pinned_fresh task other gate None = refl

other_gate_fresh : (task : Task) (other : Slot) (gate : Gate) → IsFresh (other_gate_read task other gate)
other_gate_fresh task other gate = either_way IsFresh (nat_lt other.seq WORN_NUMBER) (pinned task other gate (after_pin gate other.seq)) (ReadTargetStatus task) (λ e. pinned_fresh task other gate (after_pin gate other.seq)) (λ e. refl)

count_fresh : (task : Task) (count : ℕ) → IsFresh (count_read task count)
count_fresh task count = either_way IsFresh (nat_le 1 count && nat_le count MAX_ENTRIES) (ReadAddr task count) (ReadCount task) (λ e. refl) (λ e. refl)

addr_fresh : (task : Task) (count addr : ℕ) → IsFresh (addr_read task count addr)
addr_fresh task count addr = either_way IsFresh (nat_lt addr MAX_WORDS) (ReadExpected task count addr) (ReadAddr task count) (λ e. refl) (λ e. refl)

expected_fresh : (task : Task) (count addr expected : ℕ) → IsFresh (expected_read task count addr expected)
expected_fresh task count addr expected = either_way IsFresh (nat_le expected MAX_VALUE) (ReadNew task count addr expected) (ReadExpected task count addr) (λ e. refl) (λ e. refl)

next_read_fresh : (actor : ActorState) (task : Task) (count : ℕ) → IsFresh (next_read actor task count)
next_read_fresh actor task count = either_way IsFresh (nat_lt (length actor.others + 1) count) (ReadAddr task count) (ReadTargetStatus task) (λ e. refl) (λ e. refl)

new_fresh : (actor : ActorState) (task : Task) (count addr expected new : ℕ) → IsFresh (new_read actor task count addr expected new)
new_fresh actor task count addr expected new = either_way IsFresh (nat_le new MAX_VALUE) (next_read actor task count) (ReadNew task count addr expected) (λ e. next_read_fresh actor task count) (λ e. refl)

status_fresh : (task : Task) (status : Status) → IsFresh (status_read task status)
status_fresh task Draft = refl
status_fresh task Open = refl
status_fresh task YesDirty = refl
status_fresh task Yes = refl
status_fresh task DoneYes = refl
status_fresh task (No entry value) = refl
status_fresh task (DoneNo entry value) = refl

attempts_fresh : (task : Task) (entry next : ℕ) → next < WORN_NUMBER → IsFresh (attempts task entry next)
attempts_fresh task entry next low = either_way IsFresh (nat_lt next WORN_NUMBER) (AnnounceRow task entry next) (gives_up task SaysWorn) (λ e. refl) (λ e. absurd (grind (arith, nat_tests, e, low)))

dirty_seen_fresh : (task : Task) (entry slot value : ℕ) → IsFresh (dirty_seen task entry slot value)
dirty_seen_fresh task entry slot value =
    either_way IsFresh (slot == task.target.slot) (ReadTargetStatus task) (cond (slot == task.own.slot) (helps task task.own) (ReadDirtyGate task entry slot value)) (λ e. refl)
    (λ e. either_way IsFresh (slot == task.own.slot) (helps task task.own) (ReadDirtyGate task entry slot value) (λ d. helps_fresh task task.own) (λ d. refl))

next_word_fresh : (actor : ActorState) (task : Task) (entry : ℕ) → IsFresh (next_word actor task entry)
next_word_fresh actor task entry = either_way IsFresh (nat_lt (entry + 1) (length (entries_of actor task))) (Inspect task (entry + 1)) (DecideYes task) (λ e. refl) (λ e. refl)

inspected_fresh : (actor : ActorState) (next : ℕ) (task : Task) (entry : ℕ) (word : Word) → next < WORN_NUMBER → IsFresh (inspected actor next task entry word)
inspected_fresh actor next task entry (Plain value) low = either_way IsFresh (value == (entry_of actor task entry).expected) (attempts task entry next) (DecideNo task entry value) (λ e. attempts_fresh task entry next low) (λ e. refl)
inspected_fresh actor next task entry (Dirty slot value) low = either_way IsFresh (value == (entry_of actor task entry).expected) (dirty_seen task entry slot value) (DecideNo task entry value) (λ e. dirty_seen_fresh task entry slot value) (λ e. refl)
inspected_fresh actor next task entry (Held slot seq) low =
    let other : Slot = record { slot = slot; seq = seq } in
    either_way IsFresh (same_slot other task.target) (next_word actor task entry) (helps task other) (λ e. next_word_fresh actor task entry) (λ e. helps_fresh task other)
inspected_fresh actor next task entry (Planted worker number) low = refl

attempt_fresh : (task : Task) (entry : ℕ) (attempt : Attempt) (other : Slot) (word : Word) → IsFresh (attempt_confirmed task entry attempt other word)
attempt_fresh task entry attempt other word =
    either_way IsFresh (same_word word (planted attempt)) (attempt_met task entry attempt other) (ReadTargetStatus task)
    (λ e. either_way IsFresh (same_slot other task.target) (CheckThenResolve task entry attempt) (helps task other) (λ d. refl) (λ d. helps_fresh task other)) (λ e. refl)

dirty_gate_fresh : (task : Task) (entry slot value : ℕ) (gate : Gate) → IsFresh (dirty_gate_read task entry slot value gate)
dirty_gate_fresh task entry slot value gate =
    either_way IsFresh (gate.taken && nat_le 1 gate.pins) (ConfirmDirty task entry (record { slot = slot; seq = gate.seq }) value) (ReadTargetStatus task) (λ e. refl) (λ e. refl)

dirty_fresh : (task : Task) (other : Slot) (value : ℕ) (word : Word) → IsFresh (dirty_confirmed task other value word)
dirty_fresh task other value word = either_way IsFresh (same_word word (Dirty other.slot value)) (helps task other) (ReadTargetStatus task) (λ e. helps_fresh task other) (λ e. refl)

filed_fresh : (task : Task) (went_well : Bool) → IsFresh (filed task went_well)
filed_fresh task went_well = either_way IsFresh went_well (ReadTargetStatus task) (gives_up task SaysFault) (λ e. refl) (λ e. gives_up_fresh task SaysFault refl)

sweep_over_fresh : (actor : ActorState) (task : Task) (sweep : Sweep) → IsFresh (sweep_over actor task sweep)
sweep_over_fresh actor task SweepYes = refl
sweep_over_fresh actor task SweepDoneYes = finishes_fresh task SaysYes refl
sweep_over_fresh actor task SweepNo = refl
sweep_over_fresh actor task (SweepDoneNo entry value) = finishes_fresh task (refusal actor entry value) refl

next_sweep_fresh : (actor : ActorState) (task : Task) (sweep : Sweep) (entry : ℕ) → IsFresh (next_sweep actor task sweep entry)
next_sweep_fresh actor task sweep entry = either_way IsFresh (nat_lt (entry + 1) (length (entries_of actor task))) (SweepWord task sweep (entry + 1)) (sweep_over actor task sweep) (λ e. refl) (λ e. sweep_over_fresh actor task sweep)

released_fresh : (actor : ActorState) (task : Task) (sweep : Sweep) (entry : ℕ) (slot : Slot) → IsFresh (cond (same_slot slot task.target) (Release task sweep entry) (next_sweep actor task sweep entry))
released_fresh actor task sweep entry slot = either_way IsFresh (same_slot slot task.target) (Release task sweep entry) (next_sweep actor task sweep entry) (λ e. refl) (λ e. next_sweep_fresh actor task sweep entry)

swept_fresh : (actor : ActorState) (task : Task) (sweep : Sweep) (entry : ℕ) (word : Word) → IsFresh (swept actor task sweep entry word)
swept_fresh actor task sweep entry (Plain value) = next_sweep_fresh actor task sweep entry
swept_fresh actor task SweepYes entry (Planted worker number) = next_sweep_fresh actor task SweepYes entry
swept_fresh actor task SweepYes entry (Held slot seq) = released_fresh actor task SweepYes entry (record { slot = slot; seq = seq })
swept_fresh actor task SweepYes entry (Dirty slot value) = next_sweep_fresh actor task SweepYes entry
swept_fresh actor task SweepDoneYes entry (Planted worker number) = refl
swept_fresh actor task SweepDoneYes entry (Held slot seq) = next_sweep_fresh actor task SweepDoneYes entry
swept_fresh actor task SweepDoneYes entry (Dirty slot value) = either_way IsFresh (slot == task.target.slot) (Clean task entry value) (next_sweep actor task SweepDoneYes entry) (λ e. refl) (λ e. next_sweep_fresh actor task SweepDoneYes entry)
swept_fresh actor task SweepNo entry (Planted worker number) = refl
swept_fresh actor task SweepNo entry (Held slot seq) = released_fresh actor task SweepNo entry (record { slot = slot; seq = seq })
swept_fresh actor task SweepNo entry (Dirty slot value) = next_sweep_fresh actor task SweepNo entry
swept_fresh actor task (SweepDoneNo index found) entry (Planted worker number) = refl
swept_fresh actor task (SweepDoneNo index found) entry (Held slot seq) = released_fresh actor task (SweepDoneNo index found) entry (record { slot = slot; seq = seq })
swept_fresh actor task (SweepDoneNo index found) entry (Dirty slot value) = next_sweep_fresh actor task (SweepDoneNo index found) entry

sweep_confirmed_fresh : (actor : ActorState) (task : Task) (sweep : Sweep) (entry : ℕ) (attempt : Attempt) (other : Slot) (word : Word) → IsFresh (sweep_confirmed actor task sweep entry attempt other word)
sweep_confirmed_fresh actor task sweep entry attempt other word =
    either_way IsFresh (same_word word (planted attempt) && same_slot other task.target) (SweepResolve task sweep entry attempt) (next_sweep actor task sweep entry) (λ e. refl) (λ e. next_sweep_fresh actor task sweep entry)

-- where a request goes from each point
pub goes_fresh : (actor : ActorState) (attempt : ℕ) (point : Point) (observation : Observation) → attempt < WORN_NUMBER
    → ((slot : ℕ) (saw_worn : Bool) (gate : Gate) → point ≡ ScanGate slot saw_worn → observation ≡ SawGate gate → is_worn gate ≡ false)
    → IsFresh point → IsFresh (goes actor (next_attempt point attempt) point observation)
goes_fresh actor attempt (Read read) observation low whole fresh = read_fresh read.address read.point observation fresh
goes_fresh actor attempt ReadDoor (SawDoor door) low whole fresh = admitted_fresh attempt door (after_admit door actor.quota) low
goes_fresh actor attempt (Admit from to) Won low whole fresh = refl
goes_fresh actor attempt (Admit from to) Lost low whole fresh = refl
goes_fresh actor attempt (ScanGate slot saw_worn) (SawGate gate) low whole fresh = claiming_fresh actor slot saw_worn gate (after_claim gate) fresh (whole slot saw_worn gate refl refl)
goes_fresh actor attempt (Claim slot saw_worn from to) Won low whole fresh = refl
goes_fresh actor attempt (Claim slot saw_worn from to) Lost low whole fresh = next_gate_fresh actor slot saw_worn fresh
goes_fresh actor attempt (FillStatus own) Won low whole fresh = refl
goes_fresh actor attempt (FillCount own) Won low whole fresh = refl
goes_fresh actor attempt (FillAddr own entry) Won low whole fresh = refl
goes_fresh actor attempt (FillExpected own entry) Won low whole fresh = refl
goes_fresh actor attempt (FillNew own entry) Won low whole fresh = next_fill_fresh actor own entry
goes_fresh actor attempt (Prepare own) (Filed went_well) low whole fresh = prepared_fresh own went_well
goes_fresh actor attempt (ReadTargetStatus task) (SawStatus status) low whole fresh = status_fresh task status
goes_fresh actor attempt (Inspect task entry) (SawWord word) low whole fresh = inspected_fresh actor attempt task entry word low
goes_fresh actor attempt (AnnounceRow task entry number) Won low whole fresh = refl
goes_fresh actor attempt (Plant task entry number) Won low whole fresh = refl
goes_fresh actor attempt (Plant task entry number) Lost low whole fresh = refl
goes_fresh actor attempt (ReadOtherRow task entry other) (SawRow row) low whole fresh = refl
goes_fresh actor attempt (ConfirmAttempt task entry number other) (SawWord word) low whole fresh = attempt_fresh task entry number other word
goes_fresh actor attempt (ReadDirtyGate task entry slot value) (SawGate gate) low whole fresh = dirty_gate_fresh task entry slot value gate
goes_fresh actor attempt (ConfirmDirty task entry other value) (SawWord word) low whole fresh = dirty_fresh task other value word
goes_fresh actor attempt (DecideYes task) Won low whole fresh = refl
goes_fresh actor attempt (DecideYes task) Lost low whole fresh = refl
goes_fresh actor attempt (DecideNo task entry value) Won low whole fresh = refl
goes_fresh actor attempt (DecideNo task entry value) Lost low whole fresh = refl
goes_fresh actor attempt (CheckThenResolve task entry number) (SawStatus status) low whole fresh = refl
goes_fresh actor attempt (Resolve task entry number was_open) Won low whole fresh = refl
goes_fresh actor attempt (Resolve task entry number was_open) Lost low whole fresh = refl
goes_fresh actor attempt (ReadOtherGate task other) (SawGate gate) low whole fresh = other_gate_fresh task other gate
goes_fresh actor attempt (PinOther task other from to) Won low whole fresh = turns_to_fresh task other
goes_fresh actor attempt (PinOther task other from to) Lost low whole fresh = refl
goes_fresh actor attempt (ReadCount task) (SawNumber count) low whole fresh = count_fresh task count
goes_fresh actor attempt (ReadAddr task count) (SawNumber addr) low whole fresh = addr_fresh task count addr
goes_fresh actor attempt (ReadExpected task count addr) (SawNumber expected) low whole fresh = expected_fresh task count addr expected
goes_fresh actor attempt (ReadNew task count addr expected) (SawNumber new) low whole fresh = new_fresh actor task count addr expected new
goes_fresh actor attempt (Seal task) (Filed went_well) low whole fresh = filed_fresh task went_well
goes_fresh actor attempt (SweepWord task sweep entry) (SawWord word) low whole fresh = swept_fresh actor task sweep entry word
goes_fresh actor attempt (Release task sweep entry) Won low whole fresh = next_sweep_fresh actor task sweep entry
goes_fresh actor attempt (Release task sweep entry) Lost low whole fresh = next_sweep_fresh actor task sweep entry
goes_fresh actor attempt (Clean task entry value) Won low whole fresh = next_sweep_fresh actor task SweepDoneYes entry
goes_fresh actor attempt (Clean task entry value) Lost low whole fresh = next_sweep_fresh actor task SweepDoneYes entry
goes_fresh actor attempt (SweepRow task sweep entry number) (SawRow row) low whole fresh = refl
goes_fresh actor attempt (SweepConfirm task sweep entry number other) (SawWord word) low whole fresh = sweep_confirmed_fresh actor task sweep entry number other word
goes_fresh actor attempt (SweepResolve task sweep entry number) Won low whole fresh = next_sweep_fresh actor task sweep entry
goes_fresh actor attempt (SweepResolve task sweep entry number) Lost low whole fresh = next_sweep_fresh actor task sweep entry
goes_fresh actor attempt (Settle task) (Filed went_well) low whole fresh = filed_fresh task went_well
goes_fresh actor attempt (Cancel task) (Filed went_well) low whole fresh = refl
goes_fresh actor attempt (Unpin slot onward) (SawGate gate) low whole fresh = unpinned_fresh slot onward gate fresh
goes_fresh actor attempt (FreeSlot slot onward) Won low whole fresh = fresh
goes_fresh actor attempt (LowerDoor onward) (SawDoor door) low whole fresh = resumed_fresh onward fresh
goes_fresh actor attempt (GiveUp own undecided) (SawStatus status) low whole fresh = gave_up_fresh actor undecided status fresh
goes_fresh actor attempt point observation low whole fresh = fresh
