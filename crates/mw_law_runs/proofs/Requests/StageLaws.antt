-- An induction step for proofs about a change's request. If a fact holds at every stage (point) that may follow its stage, it
-- holds after the step.
-- Used by: RunLaws, RequestRanges, Counts/Balance, among others. A new point or stage (points.rt and specs/Stages of mw_actor)
-- needs a case in goes_leads.
use Rattle.std.specs.Prelude.{ℕ, ◌≡◌, ◌+◌, ◌≤◌, ◌==◌, ◌&&◌, ◌||◌, ◌++◌, not, Bool, true, false, cond, nat_lt, nat_le, Some, None, IfSome, List, [], ◌∷◌, length}
use Rattle.std.specs.declared.option.Option.{Option}
use Rattle.mw_words.specs.declared.limits.TheConstants.{MAX_ENTRIES, MAX_VALUE, MAX_WORDS, WORN_NUMBER, MAX_PINS}
use Rattle.mw_words.specs.declared.doors.Door.{Door}
use Rattle.mw_words.specs.declared.gates.Gate.{Gate}
use Rattle.mw_words.specs.declared.words.Word.{Word}
use Rattle.mw_words.specs.declared.words.Word.TheVariants.{Plain, Planted, Held, Dirty}
use Rattle.mw_words.specs.declared.statuses.Status.{Status}
use Rattle.mw_words.specs.declared.statuses.Status.TheVariants.{Draft, Open, YesDirty, Yes, No, DoneYes, DoneNo}
use Rattle.mw_words.specs.declared.jobs.Entry.{Entry}
use Rattle.mw_words.specs.declared.replies.Reply.{Reply}
use Rattle.mw_words.specs.declared.replies.Reply.TheVariants.{Yes as SaysYes, Fault as SaysFault, Worn as SaysWorn}
use Rattle.mw_pool.specs.declared.doors.Admission.{Admission}
use Rattle.mw_pool.specs.declared.doors.Admission.TheVariants.{Fault as HasFailed, Busy as IsBusy, To}
use Rattle.mw_pool.specs.Moves.{after_admit, after_claim, after_pin, Claims, Pins}
use Rattle.mw_look.specs.declared.observations.Observation.{Observation}
use Rattle.mw_look.specs.declared.observations.Observation.TheVariants.{SawDoor, SawGate, SawWord, SawStatus, SawRow, SawNumber, Won, Lost, Filed}
use Rattle.mw_look.specs.Program.{same_word}
use Rattle.mw_actor.specs.declared.points.Slot.{Slot}
use Rattle.mw_actor.specs.declared.points.Task.{Task}
use Rattle.mw_actor.specs.declared.points.Attempt.{Attempt}
use Rattle.mw_actor.specs.declared.points.Sweep.{Sweep}
use Rattle.mw_actor.specs.declared.points.Sweep.TheVariants.{Yes as SweepYes, DoneYes as SweepDoneYes, No as SweepNo, DoneNo as SweepDoneNo}
use Rattle.mw_actor.specs.declared.points.After.{After}
use Rattle.mw_actor.specs.declared.points.After.TheVariants.{Work, GiveUp as ThenGiveUp, Reply as ThenReply}
use Rattle.mw_actor.specs.declared.points.Point.{Point}
use Rattle.mw_actor.specs.declared.points.Point.TheVariants.{Read, ReadDoor, Admit, ScanGate, Claim, FillStatus, FillCount, FillAddr, FillExpected, FillNew, Prepare, ReadTargetStatus, Inspect, AnnounceRow, Plant, ReadOtherRow, ConfirmAttempt, ReadDirtyGate, ConfirmDirty, DecideYes, DecideNo, CheckThenResolve, Resolve, ReadOtherGate, PinOther, ReadCount, ReadAddr, ReadExpected, ReadNew, Seal, SweepWord, Release, Clean, SweepRow, SweepConfirm, SweepResolve, Settle, Cancel, Unpin, FreeSlot, LowerDoor, GiveUp, Replied}
use Rattle.std.proofs.Common.{refl, ap, ◌∙◌, arith, length-append}
use Rattle.std.proofs.lemmas.Bool.Decides.{nat_tests}
use Rattle.mw_look.proofs.RangeLaws.{either_way}
use Rattle.mw_actor.specs.ActorState.{ActorState, own_entries, is_alone, alone, entries_of, entry_of, same_slot, planted, held}
use Rattle.mw_actor.specs.Admission.{admitted, round_over, next_gate, is_worn, claiming, next_fill, prepared}
use Rattle.mw_actor.specs.RequestEnds.{works, resumed, unpinned, gives_up, refusal, finishes}
use Rattle.mw_actor.specs.Help.{turns_to, helps, pinned, other_gate_read, count_read, addr_read, expected_read, next_read, new_read, others_read}
use Rattle.mw_actor.specs.Inspection.{status_read, next_word, attempts, dirty_seen, inspected, attempt_met, attempt_confirmed, dirty_gate_read, dirty_confirmed}
use Rattle.mw_actor.specs.ReleasePhase.{filed, sweep_over, next_sweep, swept, sweep_confirmed}
use Rattle.mw_actor.specs.Program.{goes}
use Rattle.mw_actor.specs.Stages.{Stage, Entering, WritingAddr, Preparing, Checking, Inspecting, Holding, Deciding, Pinning, Fetching, Freeing, GivingUp, Over, stage, Resumes, turned, TurnsTo, OnTask, Scans, Leads}

-- the fact holds of a point's stage
abbrev pub IsAt : (Stage → Type 0) → Point → Type 0
IsAt I point = I (stage point)

-- a fact of the value that a test lets through
by_test : {B : Type 0} (test : Bool) (x : B) (P : B → Type 0) → (test ≡ true → P x) → IfSome (cond test (Some x) None) P
by_test true x P here = here refl
by_test false x P here = tt

-- a claim gives a claimed gate, whatever the gate's fields are
claims_of : (gate : Gate) → IfSome (after_claim gate) (λ to. Claims gate to)
claims_of gate = by_test (not gate.taken && nat_lt gate.seq WORN_NUMBER) (record { taken = true; pins = 1; seq = gate.seq }) (λ to. Claims gate to) (λ is. grind (arith, nat_tests, is))

-- a pin gives a pinned gate
pins_of : (gate : Gate) (seq : ℕ) → IfSome (after_pin gate seq) (λ to. Pins seq gate to)
pins_of gate seq = by_test (gate.taken && nat_le 1 gate.pins && nat_lt gate.pins MAX_PINS && (gate.seq == seq)) (record gate { pins = gate.pins + 1 }) (λ to. Pins seq gate to) (λ is. grind (arith, nat_tests, is))

-- if the tests of slot and number hold, both are the same
pub both_same : (slot seq other number : ℕ) → ((slot == other) && (seq == number)) ≡ true → (slot ≡ other) × (seq ≡ number)
both_same slot seq other number is = (grind (arith, nat_tests, is), grind (arith, nat_tests, is))

-- a word that is held for the same slot and number is the same word
held_for : (slot seq : ℕ) (target : Slot) → same_slot (record { slot = slot; seq = seq }) target ≡ true → SawWord (Held slot seq) ≡ SawWord (held target)
held_for slot seq target is =
    let are = both_same slot seq target.slot target.seq is in
    ap (λ s. SawWord (Held s seq)) are.0 ∙ ap (λ s. SawWord (Held target.slot s)) are.1

works_lead : (I : Stage → Type 0) (task : Task) → Resumes I (Work task) → IsAt I (works task)
works_lead I task on = either_way (IsAt I) (is_alone task) (ReadTargetStatus task) (ReadCount task) (λ e. on.0 e) (λ e. on.1 e)

resumed_lead : (I : Stage → Type 0) (onward : After) → Resumes I onward → IsAt I (resumed onward)
resumed_lead I (Work task) on = works_lead I task on
resumed_lead I (ThenGiveUp own undecided) on = on
resumed_lead I (ThenReply reply) on = on

unpinned_lead : (I : Stage → Type 0) (slot : Slot) (onward : After) (gate : Gate) → ((gate.pins == 1) ≡ true → I (Freeing slot onward)) → ((gate.pins == 1) ≡ false → Resumes I onward) → IsAt I (unpinned slot onward gate)
unpinned_lead I slot onward gate last on = either_way (IsAt I) (gate.pins == 1) (FreeSlot slot onward) (resumed onward) last (λ e. resumed_lead I onward (on e))

gives_up_lead : (I : Stage → Type 0) (task : Task) (undecided : Reply) → OnTask I task → IsAt I (gives_up task undecided)
gives_up_lead I task undecided on = either_way (IsAt I) (is_alone task) (GiveUp task.own undecided) (Unpin task.target (ThenGiveUp task.own undecided)) (λ e. on.gives_up e) (λ e. on.leaves_and_gives_up undecided e)

finishes_lead : (I : Stage → Type 0) (task : Task) (reply : Reply) → OnTask I task → IsAt I (finishes task reply)
finishes_lead I task reply on = either_way (IsAt I) (is_alone task) (Unpin task.own (ThenReply reply)) (Unpin task.target (Work (alone task.own))) (λ e. on.ends reply e) (λ e. on.turns_back.1 e)

turns_to_lead : (I : Stage → Type 0) (task : Task) (other : Slot) → TurnsTo I task other → IsAt I (turns_to task other)
turns_to_lead I task other on = either_way (IsAt I) (is_alone task) (works (turned task other)) (Unpin task.target (Work (turned task other))) (λ e. works_lead I (turned task other) (on.0 e)) (λ e. on.1 e)

helps_lead : (I : Stage → Type 0) (task : Task) (other : Slot) → OnTask I task → IsAt I (helps task other)
helps_lead I task other on = either_way (IsAt I) (same_slot other task.own) (turns_to task task.own) (ReadOtherGate task other) (λ e. turns_to_lead I task task.own on.turns_back) (λ e. on.nears other e)

pinned_lead : (I : Stage → Type 0) (task : Task) (other : Slot) (gate : Gate) (next : Option Gate) → I (Checking task) → ((from to : Gate) → Pins other.seq from to → I (Pinning task other from to)) → IfSome next (λ to. Pins other.seq gate to) → IsAt I (pinned task other gate next)
pinned_lead I task other gate (Some to) checks pins is = pins gate to is
pinned_lead I task other gate None checks pins is = checks

other_gate_leads : (I : Stage → Type 0) (task : Task) (other : Slot) (gate : Gate) → I (Checking task) → ((from to : Gate) → Pins other.seq from to → I (Pinning task other from to)) → IsAt I (other_gate_read task other gate)
other_gate_leads I task other gate checks pins = either_way (IsAt I) (nat_lt other.seq WORN_NUMBER) (pinned task other gate (after_pin gate other.seq)) (ReadTargetStatus task) (λ e. pinned_lead I task other gate (after_pin gate other.seq) checks pins (pins_of gate other.seq)) (λ e. checks)

count_leads : (I : Stage → Type 0) (task : Task) (count : ℕ) → I (Fetching task) → IsAt I (count_read task count)
count_leads I task count on = either_way (IsAt I) (nat_le 1 count && nat_le count MAX_ENTRIES) (ReadAddr task count) (ReadCount task) (λ e. on) (λ e. on)

addr_leads : (I : Stage → Type 0) (task : Task) (count addr : ℕ) → I (Fetching task) → IsAt I (addr_read task count addr)
addr_leads I task count addr on = either_way (IsAt I) (nat_lt addr MAX_WORDS) (ReadExpected task count addr) (ReadAddr task count) (λ e. on) (λ e. on)

expected_leads : (I : Stage → Type 0) (task : Task) (count addr expected : ℕ) → I (Fetching task) → IsAt I (expected_read task count addr expected)
expected_leads I task count addr expected on = either_way (IsAt I) (nat_le expected MAX_VALUE) (ReadNew task count addr expected) (ReadExpected task count addr) (λ e. on) (λ e. on)

-- after one entry more there is at least one
one_more : (others : List Entry) (entry : Entry) (test : Bool) → test ≡ true → 1 ≤ length (cond test (others ++ entry ∷ []) others)
one_more others entry true is = omega (arith, length-append others (entry ∷ []))
one_more others entry false is = absurd (grind (arith, is))

new_leads : (I : Stage → Type 0) (actor : ActorState) (task : Task) (count addr expected new : ℕ) → I (Fetching task) → (1 ≤ length (others_read actor.others (ReadNew task count addr expected) (SawNumber new)) → I (Checking task)) → IsAt I (new_read actor task count addr expected new)
new_leads I actor task count addr expected new on checks =
    either_way (IsAt I) (nat_le new MAX_VALUE) (next_read actor task count) (ReadNew task count addr expected)
    (λ e. either_way (IsAt I) (nat_lt (length actor.others + 1) count) (ReadAddr task count) (ReadTargetStatus task) (λ d. on) (λ d. checks (one_more actor.others (record { addr = addr; expected = expected; new = new }) (nat_le new MAX_VALUE) e)))
    (λ e. on)

next_gate_leads : (I : Stage → Type 0) (actor : ActorState) (slot : ℕ) (saw_worn : Bool) → Scans I → IsAt I (next_gate actor slot saw_worn)
next_gate_leads I actor slot saw_worn on = either_way (IsAt I) (nat_lt (slot + 1) actor.pool) (ScanGate (slot + 1) saw_worn) (round_over saw_worn) (λ e. on.0) (λ e. either_way (IsAt I) saw_worn (LowerDoor (ThenReply SaysWorn)) (ScanGate 0 false) (λ d. on.2 SaysWorn) (λ d. on.0))

claiming_leads : (I : Stage → Type 0) (actor : ActorState) (slot : ℕ) (saw_worn : Bool) (gate : Gate) (next : Option Gate) → Scans I → IfSome next (λ to. Claims gate to) → IsAt I (claiming actor slot saw_worn gate next)
claiming_leads I actor slot saw_worn gate (Some to) on is = on.1 slot gate to is
claiming_leads I actor slot saw_worn gate None on is = next_gate_leads I actor slot (saw_worn || is_worn gate) on

admitted_leads : (I : Stage → Type 0) (next : ℕ) (door : Door) (admission : Admission) → ((from to : Door) → I (Entering from to)) → I Over → IsAt I (admitted next door admission)
admitted_leads I next door HasFailed enters over = over
admitted_leads I next door IsBusy enters over = over
admitted_leads I next door (To to) enters over = either_way (IsAt I) (nat_lt next WORN_NUMBER) (Admit door to) (Replied SaysWorn) (λ e. enters door to) (λ e. over)

next_fill_leads : (I : Stage → Type 0) (actor : ActorState) (own : Slot) (entry : ℕ) → (nat_lt (entry + 1) (length (own_entries actor)) ≡ true → I (WritingAddr own (entry + 1))) → (nat_lt (entry + 1) (length (own_entries actor)) ≡ false → I (Preparing own)) → IsAt I (next_fill actor own entry)
next_fill_leads I actor own entry more last = either_way (IsAt I) (nat_lt (entry + 1) (length (own_entries actor))) (FillAddr own (entry + 1)) (Prepare own) more last

prepared_leads : (I : Stage → Type 0) (own : Slot) (went_well : Bool) → (went_well ≡ true → I (Checking (alone own))) → (went_well ≡ false → I (GivingUp own)) → IsAt I (prepared own went_well)
prepared_leads I own went_well well badly = either_way (IsAt I) went_well (ReadTargetStatus (alone own)) (GiveUp own SaysFault) well badly

status_leads : (I : Stage → Type 0) (task : Task) (status : Status) → (SawStatus status ≡ SawStatus Open → I (Inspecting task 0)) → OnTask I task → IsAt I (status_read task status)
status_leads I task Draft opens on = on.checks
status_leads I task Open opens on = opens refl
status_leads I task YesDirty opens on = on.works
status_leads I task Yes opens on = on.works
status_leads I task DoneYes opens on = on.works
status_leads I task (No entry value) opens on = on.works
status_leads I task (DoneNo entry value) opens on = on.works

attempts_lead : (I : Stage → Type 0) (task : Task) (entry next : ℕ) → I (Holding task entry) → OnTask I task → IsAt I (attempts task entry next)
attempts_lead I task entry next holds on = either_way (IsAt I) (nat_lt next WORN_NUMBER) (AnnounceRow task entry next) (gives_up task SaysWorn) (λ e. holds) (λ e. gives_up_lead I task SaysWorn on)

dirty_seen_leads : (I : Stage → Type 0) (task : Task) (entry slot value : ℕ) → OnTask I task → IsAt I (dirty_seen task entry slot value)
dirty_seen_leads I task entry slot value on = either_way (IsAt I) (slot == task.target.slot) (ReadTargetStatus task) (cond (slot == task.own.slot) (helps task task.own) (ReadDirtyGate task entry slot value)) (λ e. on.checks) (λ e. either_way (IsAt I) (slot == task.own.slot) (helps task task.own) (ReadDirtyGate task entry slot value) (λ d. helps_lead I task task.own on) (λ d. on.works))

inspected_leads : (I : Stage → Type 0) (actor : ActorState) (next : ℕ) (task : Task) (entry : ℕ) (word : Word)
    → I (Holding task entry)
    → (SawWord word ≡ SawWord (held task.target) → nat_lt (entry + 1) (length (entries_of actor task)) ≡ true → I (Inspecting task (entry + 1)))
    → (SawWord word ≡ SawWord (held task.target) → nat_lt (entry + 1) (length (entries_of actor task)) ≡ false → I (Deciding task))
    → OnTask I task → IsAt I (inspected actor next task entry word)
inspected_leads I actor next task entry (Plain value) holds goes_on decides on = either_way (IsAt I) (value == (entry_of actor task entry).expected) (attempts task entry next) (DecideNo task entry value) (λ e. attempts_lead I task entry next holds on) (λ e. on.works)
inspected_leads I actor next task entry (Dirty slot value) holds goes_on decides on = either_way (IsAt I) (value == (entry_of actor task entry).expected) (dirty_seen task entry slot value) (DecideNo task entry value) (λ e. dirty_seen_leads I task entry slot value on) (λ e. on.works)
inspected_leads I actor next task entry (Held slot seq) holds goes_on decides on =
    let other : Slot = record { slot = slot; seq = seq } in
    either_way (IsAt I) (same_slot other task.target) (next_word actor task entry) (helps task other)
    (λ e. either_way (IsAt I) (nat_lt (entry + 1) (length (entries_of actor task))) (Inspect task (entry + 1)) (DecideYes task) (λ d. goes_on (held_for slot seq task.target e) d) (λ d. decides (held_for slot seq task.target e) d))
    (λ e. helps_lead I task other on)
inspected_leads I actor next task entry (Planted worker number) holds goes_on decides on = on.works

attempt_leads : (I : Stage → Type 0) (task : Task) (entry : ℕ) (attempt : Attempt) (other : Slot) (word : Word) → OnTask I task → IsAt I (attempt_confirmed task entry attempt other word)
attempt_leads I task entry attempt other word on = either_way (IsAt I) (same_word word (planted attempt)) (attempt_met task entry attempt other) (ReadTargetStatus task) (λ e. either_way (IsAt I) (same_slot other task.target) (CheckThenResolve task entry attempt) (helps task other) (λ d. on.works) (λ d. helps_lead I task other on)) (λ e. on.checks)

dirty_gate_leads : (I : Stage → Type 0) (task : Task) (entry slot value : ℕ) (gate : Gate) → OnTask I task → IsAt I (dirty_gate_read task entry slot value gate)
dirty_gate_leads I task entry slot value gate on = either_way (IsAt I) (gate.taken && nat_le 1 gate.pins) (ConfirmDirty task entry (record { slot = slot; seq = gate.seq }) value) (ReadTargetStatus task) (λ e. on.works) (λ e. on.checks)

dirty_leads : (I : Stage → Type 0) (task : Task) (other : Slot) (value : ℕ) (word : Word) → OnTask I task → IsAt I (dirty_confirmed task other value word)
dirty_leads I task other value word on = either_way (IsAt I) (same_word word (Dirty other.slot value)) (helps task other) (ReadTargetStatus task) (λ e. helps_lead I task other on) (λ e. on.checks)

filed_leads : (I : Stage → Type 0) (task : Task) (went_well : Bool) → OnTask I task → IsAt I (filed task went_well)
filed_leads I task true on = on.checks
filed_leads I task false on = gives_up_lead I task SaysFault on

sweep_over_leads : (I : Stage → Type 0) (actor : ActorState) (task : Task) (sweep : Sweep) → OnTask I task → IsAt I (sweep_over actor task sweep)
sweep_over_leads I actor task SweepYes on = on.works
sweep_over_leads I actor task SweepDoneYes on = finishes_lead I task SaysYes on
sweep_over_leads I actor task SweepNo on = on.works
sweep_over_leads I actor task (SweepDoneNo entry value) on = finishes_lead I task (refusal actor entry value) on

next_sweep_leads : (I : Stage → Type 0) (actor : ActorState) (task : Task) (sweep : Sweep) (entry : ℕ) → OnTask I task → IsAt I (next_sweep actor task sweep entry)
next_sweep_leads I actor task sweep entry on = either_way (IsAt I) (nat_lt (entry + 1) (length (entries_of actor task))) (SweepWord task sweep (entry + 1)) (sweep_over actor task sweep) (λ e. on.works) (λ e. sweep_over_leads I actor task sweep on)

release_leads : (I : Stage → Type 0) (actor : ActorState) (task : Task) (sweep : Sweep) (entry : ℕ) (slot : Slot) → OnTask I task → IsAt I (cond (same_slot slot task.target) (Release task sweep entry) (next_sweep actor task sweep entry))
release_leads I actor task sweep entry slot on = either_way (IsAt I) (same_slot slot task.target) (Release task sweep entry) (next_sweep actor task sweep entry) (λ e. on.works) (λ e. next_sweep_leads I actor task sweep entry on)

swept_leads : (I : Stage → Type 0) (actor : ActorState) (task : Task) (sweep : Sweep) (entry : ℕ) (word : Word) → OnTask I task → IsAt I (swept actor task sweep entry word)
swept_leads I actor task sweep entry (Plain value) on = next_sweep_leads I actor task sweep entry on
swept_leads I actor task SweepYes entry (Planted worker number) on = next_sweep_leads I actor task SweepYes entry on
swept_leads I actor task SweepYes entry (Held slot seq) on = release_leads I actor task SweepYes entry (record { slot = slot; seq = seq }) on
swept_leads I actor task SweepYes entry (Dirty slot value) on = next_sweep_leads I actor task SweepYes entry on
swept_leads I actor task SweepDoneYes entry (Planted worker number) on = on.works
swept_leads I actor task SweepDoneYes entry (Held slot seq) on = next_sweep_leads I actor task SweepDoneYes entry on
swept_leads I actor task SweepDoneYes entry (Dirty slot value) on = either_way (IsAt I) (slot == task.target.slot) (Clean task entry value) (next_sweep actor task SweepDoneYes entry) (λ e. on.works) (λ e. next_sweep_leads I actor task SweepDoneYes entry on)
swept_leads I actor task SweepNo entry (Planted worker number) on = on.works
swept_leads I actor task SweepNo entry (Held slot seq) on = release_leads I actor task SweepNo entry (record { slot = slot; seq = seq }) on
swept_leads I actor task SweepNo entry (Dirty slot value) on = next_sweep_leads I actor task SweepNo entry on
swept_leads I actor task (SweepDoneNo index found) entry (Planted worker number) on = on.works
swept_leads I actor task (SweepDoneNo index found) entry (Held slot seq) on = release_leads I actor task (SweepDoneNo index found) entry (record { slot = slot; seq = seq }) on
swept_leads I actor task (SweepDoneNo index found) entry (Dirty slot value) on = next_sweep_leads I actor task (SweepDoneNo index found) entry on

sweep_confirmed_leads : (I : Stage → Type 0) (actor : ActorState) (task : Task) (sweep : Sweep) (entry : ℕ) (attempt : Attempt) (other : Slot) (word : Word) → OnTask I task → IsAt I (sweep_confirmed actor task sweep entry attempt other word)
sweep_confirmed_leads I actor task sweep entry attempt other word on = either_way (IsAt I) (same_word word (planted attempt) && same_slot other task.target) (SweepResolve task sweep entry attempt) (next_sweep actor task sweep entry) (λ e. on.works) (λ e. next_sweep_leads I actor task sweep entry on)

-- A fact that holds of each stage to which a request may go holds of its next stage.
pub goes_leads : (I : Stage → Type 0) (actor : ActorState) (next : ℕ) (point : Point) (observation : Observation) → Leads I actor (others_read actor.others point observation) (stage point) observation → IsAt I (goes actor next point observation)
goes_leads I actor next (Read look) observation on = on
goes_leads I actor next ReadDoor (SawDoor door) on = admitted_leads I next door (after_admit door actor.quota) on.1 on.2
goes_leads I actor next ReadDoor observation on = on.0
goes_leads I actor next (Admit from to) Won on = on
goes_leads I actor next (Admit from to) Lost on = on
goes_leads I actor next (ScanGate slot saw_worn) (SawGate gate) on = claiming_leads I actor slot saw_worn gate (after_claim gate) on (claims_of gate)
goes_leads I actor next (ScanGate slot saw_worn) observation on = on.0
goes_leads I actor next (Claim slot saw_worn from to) Won on = on
goes_leads I actor next (Claim slot saw_worn from to) Lost on = next_gate_leads I actor slot saw_worn on
goes_leads I actor next (FillStatus own) Won on = on
goes_leads I actor next (FillCount own) Won on = on
goes_leads I actor next (FillAddr own entry) Won on = on
goes_leads I actor next (FillExpected own entry) Won on = on
goes_leads I actor next (FillNew own entry) Won on = next_fill_leads I actor own entry on.0 on.1
goes_leads I actor next (Prepare own) (Filed went_well) on = prepared_leads I own went_well on.0 on.1
goes_leads I actor next (ReadTargetStatus task) (SawStatus status) on = status_leads I task status on.0 on.1
goes_leads I actor next (ReadTargetStatus task) observation on = on.1.checks
goes_leads I actor next (Inspect task entry) (SawWord word) on = inspected_leads I actor next task entry word on.1 on.2 on.3 on.4
goes_leads I actor next (Inspect task entry) observation on = on.0
goes_leads I actor next (AnnounceRow task entry number) Won on = on.0
goes_leads I actor next (AnnounceRow task entry number) observation on = on.0
goes_leads I actor next (Plant task entry number) Won on = on.1.works
goes_leads I actor next (Plant task entry number) Lost on = on.1.checks
goes_leads I actor next (Plant task entry number) observation on = on.0
goes_leads I actor next (ReadOtherRow task entry attempt) (SawRow row) on = on.works
goes_leads I actor next (ReadOtherRow task entry attempt) observation on = on.works
goes_leads I actor next (ConfirmAttempt task entry attempt other) (SawWord word) on = attempt_leads I task entry attempt other word on
goes_leads I actor next (ConfirmAttempt task entry attempt other) observation on = on.works
goes_leads I actor next (ReadDirtyGate task entry slot value) (SawGate gate) on = dirty_gate_leads I task entry slot value gate on
goes_leads I actor next (ReadDirtyGate task entry slot value) observation on = on.works
goes_leads I actor next (ConfirmDirty task entry other value) (SawWord word) on = dirty_leads I task other value word on
goes_leads I actor next (ConfirmDirty task entry other value) observation on = on.works
goes_leads I actor next (DecideYes task) Won on = on.1.checks
goes_leads I actor next (DecideYes task) Lost on = on.1.checks
goes_leads I actor next (DecideYes task) observation on = on.0
goes_leads I actor next (DecideNo task entry value) Won on = on.checks
goes_leads I actor next (DecideNo task entry value) Lost on = on.checks
goes_leads I actor next (DecideNo task entry value) observation on = on.works
goes_leads I actor next (CheckThenResolve task entry attempt) (SawStatus status) on = on.works
goes_leads I actor next (CheckThenResolve task entry attempt) observation on = on.works
goes_leads I actor next (Resolve task entry attempt was_open) Won on = on.checks
goes_leads I actor next (Resolve task entry attempt was_open) Lost on = on.checks
goes_leads I actor next (Resolve task entry attempt was_open) observation on = on.works
goes_leads I actor next (ReadOtherGate task other) (SawGate gate) on = other_gate_leads I task other gate on.1 on.2
goes_leads I actor next (ReadOtherGate task other) observation on = on.0
goes_leads I actor next (PinOther task other from to) Won on = turns_to_lead I task other on
goes_leads I actor next (PinOther task other from to) Lost on = on
goes_leads I actor next (ReadCount task) (SawNumber count) on = count_leads I task count on.0
goes_leads I actor next (ReadCount task) observation on = on.0
goes_leads I actor next (ReadAddr task count) (SawNumber addr) on = addr_leads I task count addr on.0
goes_leads I actor next (ReadAddr task count) observation on = on.0
goes_leads I actor next (ReadExpected task count addr) (SawNumber expected) on = expected_leads I task count addr expected on.0
goes_leads I actor next (ReadExpected task count addr) observation on = on.0
goes_leads I actor next (ReadNew task count addr expected) (SawNumber new) on = new_leads I actor task count addr expected new on.0 on.1
goes_leads I actor next (ReadNew task count addr expected) observation on = on.0
goes_leads I actor next (Seal task) (Filed went_well) on = filed_leads I task went_well on
goes_leads I actor next (Seal task) observation on = on.works
goes_leads I actor next (SweepWord task sweep entry) (SawWord word) on = swept_leads I actor task sweep entry word on
goes_leads I actor next (SweepWord task sweep entry) observation on = on.works
goes_leads I actor next (Release task sweep entry) Won on = next_sweep_leads I actor task sweep entry on
goes_leads I actor next (Release task sweep entry) Lost on = next_sweep_leads I actor task sweep entry on
goes_leads I actor next (Release task sweep entry) observation on = on.works
goes_leads I actor next (Clean task entry value) Won on = next_sweep_leads I actor task SweepDoneYes entry on
goes_leads I actor next (Clean task entry value) Lost on = next_sweep_leads I actor task SweepDoneYes entry on
goes_leads I actor next (Clean task entry value) observation on = on.works
goes_leads I actor next (SweepRow task sweep entry attempt) (SawRow row) on = on.works
goes_leads I actor next (SweepRow task sweep entry attempt) observation on = on.works
goes_leads I actor next (SweepConfirm task sweep entry attempt other) (SawWord word) on = sweep_confirmed_leads I actor task sweep entry attempt other word on
goes_leads I actor next (SweepConfirm task sweep entry attempt other) observation on = on.works
goes_leads I actor next (SweepResolve task sweep entry attempt) Won on = next_sweep_leads I actor task sweep entry on
goes_leads I actor next (SweepResolve task sweep entry attempt) Lost on = next_sweep_leads I actor task sweep entry on
goes_leads I actor next (SweepResolve task sweep entry attempt) observation on = on.works
goes_leads I actor next (Settle task) (Filed went_well) on = filed_leads I task went_well on
goes_leads I actor next (Settle task) observation on = on.works
goes_leads I actor next (Cancel task) (Filed went_well) on = on.checks
goes_leads I actor next (Cancel task) observation on = on.works
goes_leads I actor next (Unpin slot onward) (SawGate gate) on = unpinned_lead I slot onward gate on.0 on.1
goes_leads I actor next (FreeSlot slot onward) Won on = on
goes_leads I actor next (LowerDoor onward) (SawDoor door) on = resumed_lead I onward on
goes_leads I actor next (GiveUp own undecided) (SawStatus status) on = on
goes_leads I actor next point observation on = on
