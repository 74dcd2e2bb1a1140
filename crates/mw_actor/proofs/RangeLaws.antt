-- The numbers that a request keeps (slots, entries, sequence and attempt numbers) stay in range from each point of its
-- program to the next.
-- Used by: Actor::after, Actor::tell_of, mw_law_runs.
use Rattle.std.specs.Prelude.{IfSome, ℕ, ◌≡◌, ◌+◌, ◌^◌, ◌<◌, ◌≤◌, ◌==◌, ◌&&◌, ◌||◌, ◌++◌, Bool, true, false, cond, nat_lt, nat_le, Some, None, List, [], ◌∷◌, length}
use Rattle.std.specs.declared.option.Option.{Option}
use Rattle.mw_words.specs.declared.limits.TheConstants.{MAX_ENTRIES, MAX_VALUE, MAX_WORDS, MAX_WORKERS, WORN_NUMBER}
use Rattle.mw_words.specs.declared.doors.Door.{Door}
use Rattle.mw_words.specs.declared.gates.Gate.{Gate}
use Rattle.mw_words.specs.declared.words.Word.{Word}
use Rattle.mw_words.specs.declared.words.Word.TheVariants.{Plain, Planted, Held, Dirty}
use Rattle.mw_words.specs.declared.statuses.Status.{Status}
use Rattle.mw_words.specs.declared.statuses.Status.TheVariants.{Draft, Open, YesDirty, Yes, No, DoneYes, DoneNo}
use Rattle.mw_words.specs.declared.jobs.Entry.{Entry}
use Rattle.mw_words.specs.declared.replies.Reply.{Reply}
use Rattle.mw_words.specs.declared.replies.Reply.TheVariants.{Yes as SaysYes, Fault as SaysFault, Worn as SaysWorn}
use Rattle.mw_words.specs.Patterns.{IsDoorInRange, IsGateInRange}
use Rattle.mw_pool.specs.declared.doors.Admission.{Admission}
use Rattle.mw_pool.specs.declared.doors.Admission.TheVariants.{Fault as HasFailed, Busy as IsBusy, To}
use Rattle.mw_pool.specs.Moves.{after_admit, after_claim, after_pin}
use Rattle.mw_look.specs.declared.observations.Observation.{Observation}
use Rattle.mw_look.specs.declared.observations.Observation.TheVariants.{SawDoor, SawGate, SawWord, SawStatus, SawRow, SawNumber, Won, Lost, Filed}
use Rattle.mw_look.specs.Program.{same_word}
use Rattle.mw_actor.specs.declared.points.Slot.{Slot}
use Rattle.mw_actor.specs.declared.points.Task.{Task}
use Rattle.mw_actor.specs.declared.points.Attempt.{Attempt}
use Rattle.mw_actor.specs.declared.points.Sweep.{Sweep}
use Rattle.mw_actor.specs.declared.points.Sweep.TheVariants.{Yes as SweepYes, DoneYes as SweepDoneYes, No as SweepNo, DoneNo as SweepDoneNo}
use Rattle.mw_actor.specs.declared.points.After.{After}
use Rattle.mw_actor.specs.declared.points.After.TheVariants.{Work, GiveUp as ThenGiveUp, Reply as ThenReply}
use Rattle.mw_actor.specs.declared.points.Point.{Point}
use Rattle.mw_actor.specs.declared.points.Point.TheVariants.{Read, ReadDoor, Admit, ScanGate, Claim, FillStatus, FillCount, FillAddr, FillExpected, FillNew, Prepare, ReadTargetStatus, Inspect, AnnounceRow, Plant, ReadOtherRow, ConfirmAttempt, ReadDirtyGate, ConfirmDirty, DecideYes, DecideNo, CheckThenResolve, Resolve, ReadOtherGate, PinOther, ReadCount, ReadAddr, ReadExpected, ReadNew, Seal, SweepWord, Release, Clean, SweepRow, SweepConfirm, SweepResolve, Settle, Cancel, Unpin, FreeSlot, LowerDoor, GiveUp, Replied}
use Rattle.std.proofs.Common.{refl, sym, subst, ap, arith, ◌∙◌, length-append}
use Rattle.std.proofs.lemmas.Bool.Decides.{nat_tests}
use Rattle.std.proofs.lemmas.List.Elements.{All-push}
use Rattle.mw_words.specs.Patterns.{IsWordInRange}
use Rattle.mw_pool.specs.Moves.{Says, Claims, Pins}
use Rattle.mw_pool.proofs.MoveLaws.{admit_says, claim_is, pin_is}
use Rattle.mw_look.specs.Observations.{IsObservationInRange}
use Rattle.mw_look.specs.Program.{Reading}
use Rattle.mw_look.proofs.RangeLaws.{either_way}
use Rattle.mw_actor.specs.ActorState.{ActorState, own_entries, is_alone, alone, entries_of, entry_of, same_slot, planted}
use Rattle.mw_actor.specs.Admission.{admitted, round_over, next_gate, is_worn, claiming, next_fill, prepared}
use Rattle.mw_actor.specs.RequestEnds.{works, resumed, unpinned, gives_up, refusal, finishes}
use Rattle.mw_actor.specs.Help.{turns_to, helps, pinned, other_gate_read, count_read, addr_read, expected_read, next_read, others_read}
use Rattle.mw_actor.specs.Inspection.{status_read, next_word, attempts, dirty_seen, inspected, attempt_met, attempt_confirmed, dirty_gate_read, dirty_confirmed}
use Rattle.mw_actor.specs.ReleasePhase.{filed, sweep_over, next_sweep, swept, sweep_confirmed}
use Rattle.mw_actor.specs.Program.{changes, goes, tells}
use Rattle.mw_actor.specs.Ranges.{IsEntryInRange, AreEntriesInRange, IsTaskInRange, IsAttemptInRange, IsAfterInRange, IsReading, IsPointInRange, IsInRange}

-- what a test of two numbers tells
is_below : (m n : ℕ) → nat_lt m n ≡ true → m < n
is_below m n is = grind (arith, nat_tests, is)

below_most : (m n most : ℕ) → nat_lt m n ≡ true → n ≤ most → m < most
below_most m n most is few = grind (arith, nat_tests, is, few)

is_at_most : (m n : ℕ) → nat_le m n ≡ true → m ≤ n
is_at_most m n is = grind (arith, nat_tests, is)

-- the task of a change that works alone is in range
alone_fits : (own : Slot) → own.seq < WORN_NUMBER → IsTaskInRange (alone own)
alone_fits own low = (low, low)

-- either change has at most MAX_ENTRIES entries
entries_few : (actor : ActorState) (task : Task) → length (own_entries actor) ≤ MAX_ENTRIES → length actor.others ≤ MAX_ENTRIES → length (entries_of actor task) ≤ MAX_ENTRIES
entries_few actor task own read = either_way (λ entries. length entries ≤ MAX_ENTRIES) (is_alone task) (own_entries actor) actor.others (λ e. own) (λ e. read)

works_fits : (others : List Entry) (task : Task) → IsTaskInRange task → IsPointInRange others (works task)
works_fits others task fits = either_way (IsPointInRange others) (is_alone task) (ReadTargetStatus task) (ReadCount task) (λ e. fits) (λ e. fits)

resumed_fits : (others : List Entry) (after : After) → IsAfterInRange after → IsPointInRange others (resumed after)
resumed_fits others (Work task) fits = works_fits others task fits
resumed_fits others (ThenGiveUp own undecided) fits = tt
resumed_fits others (ThenReply reply) fits = tt

unpinned_fits : (others : List Entry) (slot : Slot) (after : After) (gate : Gate) → slot.seq < WORN_NUMBER → IsAfterInRange after → IsPointInRange others (unpinned slot after gate)
unpinned_fits others slot after gate low fits = either_way (IsPointInRange others) (gate.pins == 1) (FreeSlot slot after) (resumed after) (λ e. (low, fits)) (λ e. resumed_fits others after fits)

gives_up_fits : (others : List Entry) (task : Task) (undecided : Reply) → IsTaskInRange task → IsPointInRange others (gives_up task undecided)
gives_up_fits others task undecided fits = either_way (IsPointInRange others) (is_alone task) (GiveUp task.own undecided) (Unpin task.target (ThenGiveUp task.own undecided)) (λ e. tt) (λ e. (fits.1, tt))

finishes_fits : (others : List Entry) (task : Task) (reply : Reply) → IsTaskInRange task → IsPointInRange others (finishes task reply)
finishes_fits others task reply fits = either_way (IsPointInRange others) (is_alone task) (Unpin task.own (ThenReply reply)) (Unpin task.target (Work (alone task.own))) (λ e. (fits.0, tt)) (λ e. (fits.1, (fits.0, fits.0)))

turns_to_fits : (others : List Entry) (task : Task) (other : Slot) → IsTaskInRange task → other.seq < WORN_NUMBER → IsPointInRange others (turns_to task other)
turns_to_fits others task other fits low =
    let next : Task = record { own = task.own; target = other } in
    either_way (IsPointInRange others) (is_alone task) (works next) (Unpin task.target (Work next)) (λ e. works_fits others next (fits.0, low)) (λ e. (fits.1, (fits.0, low)))

helps_fits : (others : List Entry) (task : Task) (other : Slot) → IsTaskInRange task → IsPointInRange others (helps task other)
helps_fits others task other fits = either_way (IsPointInRange others) (same_slot other task.own) (turns_to task task.own) (ReadOtherGate task other) (λ e. turns_to_fits others task task.own fits fits.0) (λ e. fits)

pinned_fits : (others : List Entry) (task : Task) (other : Slot) (gate : Gate) (next : Option Gate) → IsTaskInRange task → other.seq < WORN_NUMBER → IsGateInRange gate → IfSome next (λ to. Pins other.seq gate to × IsGateInRange to) → IsPointInRange others (pinned task other gate next)
pinned_fits others task other gate (Some to) fits low saw is = (fits, low, saw, is.1)
pinned_fits others task other gate None fits low saw is = fits

other_gate_fits : (others : List Entry) (task : Task) (other : Slot) (gate : Gate) → IsTaskInRange task → IsGateInRange gate → IsPointInRange others (other_gate_read task other gate)
other_gate_fits others task other gate fits saw =
    either_way (IsPointInRange others) (nat_lt other.seq WORN_NUMBER) (pinned task other gate (after_pin gate other.seq)) (ReadTargetStatus task)
    (λ low. pinned_fits others task other gate (after_pin gate other.seq) fits (grind (arith, nat_tests, low)) saw (pin_is gate other.seq saw))
    (λ worn. fits)

count_fits : (task : Task) (count : ℕ) → IsTaskInRange task → IsPointInRange [] (count_read task count)
count_fits task count fits = either_way (IsPointInRange []) (nat_le 1 count && nat_le count MAX_ENTRIES) (ReadAddr task count) (ReadCount task) (λ is. (fits, grind (arith, nat_tests, is))) (λ e. fits)

addr_fits : (others : List Entry) (task : Task) (count addr : ℕ) → IsTaskInRange task → IsReading others count → IsPointInRange others (addr_read task count addr)
addr_fits others task count addr fits more = either_way (IsPointInRange others) (nat_lt addr MAX_WORDS) (ReadExpected task count addr) (ReadAddr task count) (λ low. (fits, more, grind (arith, nat_tests, low))) (λ e. (fits, more))

expected_fits : (others : List Entry) (task : Task) (count addr expected : ℕ) → IsTaskInRange task → IsReading others count → addr < MAX_WORDS → IsPointInRange others (expected_read task count addr expected)
expected_fits others task count addr expected fits more low = either_way (IsPointInRange others) (nat_le expected MAX_VALUE) (ReadNew task count addr expected) (ReadExpected task count addr) (λ small. (fits, more, low, grind (arith, nat_tests, small))) (λ e. (fits, more, low))

-- after one entry more was read, another entry must be read or none
next_read_fits : (actor : ActorState) (task : Task) (count : ℕ) (entry : Entry) → IsTaskInRange task → count ≤ MAX_ENTRIES → IsPointInRange (actor.others ++ entry ∷ []) (next_read actor task count)
next_read_fits actor task count entry fits few =
    either_way (IsPointInRange (actor.others ++ entry ∷ [])) (nat_lt (length actor.others + 1) count) (ReadAddr task count) (ReadTargetStatus task)
    (λ more. (fits, (grind (arith, nat_tests, more, length-append actor.others (entry ∷ [])), few)))
    (λ e. fits)

new_fits : (actor : ActorState) (task : Task) (count addr expected : ℕ) (entry : Entry) (small : Bool) → IsTaskInRange task → IsReading actor.others count → addr < MAX_WORDS → expected ≤ MAX_VALUE →
    IsPointInRange (cond small (actor.others ++ entry ∷ []) actor.others) (cond small (next_read actor task count) (ReadNew task count addr expected))
new_fits actor task count addr expected entry true fits more low few = next_read_fits actor task count entry fits more.1
new_fits actor task count addr expected entry false fits more low few = (fits, more, low, few)

round_over_fits : (others : List Entry) (saw_worn : Bool) → IsPointInRange others (round_over saw_worn)
round_over_fits others true = tt
round_over_fits others false = tt

next_gate_fits : (others : List Entry) (actor : ActorState) (slot : ℕ) (saw_worn : Bool) → IsPointInRange others (next_gate actor slot saw_worn)
next_gate_fits others actor slot saw_worn = either_way (IsPointInRange others) (nat_lt (slot + 1) actor.pool) (ScanGate (slot + 1) saw_worn) (round_over saw_worn) (λ e. tt) (λ e. round_over_fits others saw_worn)

claiming_fits : (others : List Entry) (actor : ActorState) (slot : ℕ) (saw_worn : Bool) (gate : Gate) (next : Option Gate) → IsGateInRange gate → IfSome next (λ to. Claims gate to × IsGateInRange to) → IsPointInRange others (claiming actor slot saw_worn gate next)
claiming_fits others actor slot saw_worn gate (Some to) saw is = (is.0.was_not_worn, saw, is.1)
claiming_fits others actor slot saw_worn gate None saw is = next_gate_fits others actor slot (saw_worn || is_worn gate)

admitted_fits : (others : List Entry) (next quota : ℕ) (door : Door) (said : Admission) → IsDoorInRange door → Says door quota said → IsPointInRange others (admitted next door said)
admitted_fits others next quota door HasFailed fits says = tt
admitted_fits others next quota door IsBusy fits says = tt
admitted_fits others next quota door (To to) fits says = either_way (IsPointInRange others) (nat_lt next WORN_NUMBER) (Admit door to) (Replied SaysWorn) (λ e. (fits, says.1)) (λ e. tt)

next_fill_fits : (others : List Entry) (actor : ActorState) (own : Slot) (entry : ℕ) → own.seq < WORN_NUMBER → IsPointInRange others (next_fill actor own entry)
next_fill_fits others actor own entry low = either_way (IsPointInRange others) (nat_lt (entry + 1) (length (own_entries actor))) (FillAddr own (entry + 1)) (Prepare own) (λ e. low) (λ e. low)

prepared_fits : (others : List Entry) (own : Slot) (went_well : Bool) → own.seq < WORN_NUMBER → IsPointInRange others (prepared own went_well)
prepared_fits others own true low = alone_fits own low
prepared_fits others own false low = tt

status_fits : (others : List Entry) (task : Task) (status : Status) → IsTaskInRange task → IsPointInRange others (status_read task status)
status_fits others task Draft fits = fits
status_fits others task Open fits = (fits, omega arith)
status_fits others task YesDirty fits = fits
status_fits others task Yes fits = fits
status_fits others task DoneYes fits = fits
status_fits others task (No entry value) fits = fits
status_fits others task (DoneNo entry value) fits = fits

next_word_fits : (others : List Entry) (actor : ActorState) (task : Task) (entry : ℕ) → IsTaskInRange task → length (entries_of actor task) ≤ MAX_ENTRIES → IsPointInRange others (next_word actor task entry)
next_word_fits others actor task entry fits few = either_way (IsPointInRange others) (nat_lt (entry + 1) (length (entries_of actor task))) (Inspect task (entry + 1)) (DecideYes task) (λ more. (fits, below_most (entry + 1) (length (entries_of actor task)) MAX_ENTRIES more few)) (λ e. fits)

attempts_fits : (others : List Entry) (task : Task) (entry next : ℕ) → IsTaskInRange task → entry < MAX_ENTRIES → IsPointInRange others (attempts task entry next)
attempts_fits others task entry next fits low = either_way (IsPointInRange others) (nat_lt next WORN_NUMBER) (AnnounceRow task entry next) (gives_up task SaysWorn) (λ small. (fits, low, grind (arith, nat_tests, small))) (λ e. gives_up_fits others task SaysWorn fits)

dirty_seen_fits : (others : List Entry) (task : Task) (entry slot value : ℕ) → IsTaskInRange task → IsPointInRange others (dirty_seen task entry slot value)
dirty_seen_fits others task entry slot value fits =
    either_way (IsPointInRange others) (slot == task.target.slot) (ReadTargetStatus task) (cond (slot == task.own.slot) (helps task task.own) (ReadDirtyGate task entry slot value)) (λ e. fits)
    (λ e. either_way (IsPointInRange others) (slot == task.own.slot) (helps task task.own) (ReadDirtyGate task entry slot value) (λ d. helps_fits others task task.own fits) (λ d. fits))

inspected_fits : (others : List Entry) (actor : ActorState) (next : ℕ) (task : Task) (entry : ℕ) (word : Word) → IsTaskInRange task → entry < MAX_ENTRIES → length (entries_of actor task) ≤ MAX_ENTRIES → IsWordInRange word → IsPointInRange others (inspected actor next task entry word)
inspected_fits others actor next task entry (Plain value) fits low few saw =
    either_way (IsPointInRange others) (value == (entry_of actor task entry).expected) (attempts task entry next) (DecideNo task entry value) (λ e. attempts_fits others task entry next fits low) (λ e. (fits, low, saw))
inspected_fits others actor next task entry (Dirty slot value) fits low few saw =
    either_way (IsPointInRange others) (value == (entry_of actor task entry).expected) (dirty_seen task entry slot value) (DecideNo task entry value) (λ e. dirty_seen_fits others task entry slot value fits) (λ e. (fits, low, saw.1))
inspected_fits others actor next task entry (Held slot seq) fits low few saw =
    let other : Slot = record { slot = slot; seq = seq } in
    either_way (IsPointInRange others) (same_slot other task.target) (next_word actor task entry) (helps task other) (λ e. next_word_fits others actor task entry fits few) (λ e. helps_fits others task other fits)
inspected_fits others actor next task entry (Planted worker number) fits low few saw = (fits, saw)

attempt_fits : (others : List Entry) (task : Task) (entry : ℕ) (attempt : Attempt) (other : Slot) (word : Word) → IsTaskInRange task → IsAttemptInRange attempt → IsPointInRange others (attempt_confirmed task entry attempt other word)
attempt_fits others task entry attempt other word fits is =
    either_way (IsPointInRange others) (same_word word (planted attempt)) (attempt_met task entry attempt other) (ReadTargetStatus task)
    (λ e. either_way (IsPointInRange others) (same_slot other task.target) (CheckThenResolve task entry attempt) (helps task other) (λ d. (fits, is)) (λ d. helps_fits others task other fits))
    (λ e. fits)

dirty_gate_fits : (others : List Entry) (task : Task) (entry slot value : ℕ) (gate : Gate) → IsTaskInRange task → IsPointInRange others (dirty_gate_read task entry slot value gate)
dirty_gate_fits others task entry slot value gate fits = either_way (IsPointInRange others) (gate.taken && nat_le 1 gate.pins) (ConfirmDirty task entry (record { slot = slot; seq = gate.seq }) value) (ReadTargetStatus task) (λ e. fits) (λ e. fits)

dirty_fits : (others : List Entry) (task : Task) (other : Slot) (value : ℕ) (word : Word) → IsTaskInRange task → IsPointInRange others (dirty_confirmed task other value word)
dirty_fits others task other value word fits = either_way (IsPointInRange others) (same_word word (Dirty other.slot value)) (helps task other) (ReadTargetStatus task) (λ e. helps_fits others task other fits) (λ e. fits)

filed_fits : (others : List Entry) (task : Task) (went_well : Bool) → IsTaskInRange task → IsPointInRange others (filed task went_well)
filed_fits others task true fits = fits
filed_fits others task false fits = gives_up_fits others task SaysFault fits

sweep_over_fits : (others : List Entry) (actor : ActorState) (task : Task) (sweep : Sweep) → IsTaskInRange task → IsPointInRange others (sweep_over actor task sweep)
sweep_over_fits others actor task SweepYes fits = fits
sweep_over_fits others actor task SweepDoneYes fits = finishes_fits others task SaysYes fits
sweep_over_fits others actor task SweepNo fits = fits
sweep_over_fits others actor task (SweepDoneNo entry value) fits = finishes_fits others task (refusal actor entry value) fits

next_sweep_fits : (others : List Entry) (actor : ActorState) (task : Task) (sweep : Sweep) (entry : ℕ) → IsTaskInRange task → IsPointInRange others (next_sweep actor task sweep entry)
next_sweep_fits others actor task sweep entry fits = either_way (IsPointInRange others) (nat_lt (entry + 1) (length (entries_of actor task))) (SweepWord task sweep (entry + 1)) (sweep_over actor task sweep) (λ e. fits) (λ e. sweep_over_fits others actor task sweep fits)

release_fits : (others : List Entry) (actor : ActorState) (task : Task) (sweep : Sweep) (entry : ℕ) (slot : Slot) → IsTaskInRange task → IsPointInRange others (cond (same_slot slot task.target) (Release task sweep entry) (next_sweep actor task sweep entry))
release_fits others actor task sweep entry slot fits = either_way (IsPointInRange others) (same_slot slot task.target) (Release task sweep entry) (next_sweep actor task sweep entry) (λ e. fits) (λ e. next_sweep_fits others actor task sweep entry fits)

swept_fits : (others : List Entry) (actor : ActorState) (task : Task) (sweep : Sweep) (entry : ℕ) (word : Word) → IsTaskInRange task → IsWordInRange word → IsPointInRange others (swept actor task sweep entry word)
swept_fits others actor task sweep entry (Plain value) fits saw = next_sweep_fits others actor task sweep entry fits
swept_fits others actor task SweepYes entry (Planted worker number) fits saw = next_sweep_fits others actor task SweepYes entry fits
swept_fits others actor task SweepDoneYes entry (Planted worker number) fits saw = (fits, saw)
swept_fits others actor task SweepNo entry (Planted worker number) fits saw = (fits, saw)
swept_fits others actor task (SweepDoneNo index found) entry (Planted worker number) fits saw = (fits, saw)
swept_fits others actor task SweepDoneYes entry (Held slot seq) fits saw = next_sweep_fits others actor task SweepDoneYes entry fits
swept_fits others actor task SweepYes entry (Held slot seq) fits saw = release_fits others actor task SweepYes entry (record { slot = slot; seq = seq }) fits
swept_fits others actor task SweepNo entry (Held slot seq) fits saw = release_fits others actor task SweepNo entry (record { slot = slot; seq = seq }) fits
swept_fits others actor task (SweepDoneNo index found) entry (Held slot seq) fits saw = release_fits others actor task (SweepDoneNo index found) entry (record { slot = slot; seq = seq }) fits
swept_fits others actor task SweepDoneYes entry (Dirty slot value) fits saw = either_way (IsPointInRange others) (slot == task.target.slot) (Clean task entry value) (next_sweep actor task SweepDoneYes entry) (λ e. (fits, saw.1)) (λ e. next_sweep_fits others actor task SweepDoneYes entry fits)
swept_fits others actor task SweepYes entry (Dirty slot value) fits saw = next_sweep_fits others actor task SweepYes entry fits
swept_fits others actor task SweepNo entry (Dirty slot value) fits saw = next_sweep_fits others actor task SweepNo entry fits
swept_fits others actor task (SweepDoneNo index found) entry (Dirty slot value) fits saw = next_sweep_fits others actor task (SweepDoneNo index found) entry fits

sweep_confirmed_fits : (others : List Entry) (actor : ActorState) (task : Task) (sweep : Sweep) (entry : ℕ) (attempt : Attempt) (other : Slot) (word : Word) → IsTaskInRange task → IsAttemptInRange attempt → IsPointInRange others (sweep_confirmed actor task sweep entry attempt other word)
sweep_confirmed_fits others actor task sweep entry attempt other word fits is =
    either_way (IsPointInRange others) (same_word word (planted attempt) && same_slot other task.target) (SweepResolve task sweep entry attempt) (next_sweep actor task sweep entry) (λ e. (fits, is)) (λ e. next_sweep_fits others actor task sweep entry fits)

-- what a request uses besides its point is in range: worker, quota, and the numbers of both lists of entries
pub record IsSound (actor : ActorState) : Type 0 where
  pub worker : actor.worker < MAX_WORKERS
  pub quota : actor.quota < 2 ^ 8
  pub own : length (own_entries actor) ≤ MAX_ENTRIES
  pub read : length actor.others ≤ MAX_ENTRIES

-- the numbers kept at a point stay in range at the next point, if the observation is in range
pub goes_in_range : (actor : ActorState) (next : ℕ) (point : Point) (observation : Observation) → IsSound actor → IsPointInRange actor.others point → IsObservationInRange observation → IsPointInRange (others_read actor.others point observation) (goes actor next point observation)
goes_in_range actor next (Read look) observation is fits saw = tt
goes_in_range actor next ReadDoor (SawDoor door) is fits saw = admitted_fits actor.others next actor.quota door (after_admit door actor.quota) saw (admit_says door actor.quota saw is.quota)
goes_in_range actor next (Admit from to) Won is fits saw = tt
goes_in_range actor next (Admit from to) Lost is fits saw = tt
goes_in_range actor next (ScanGate slot saw_worn) (SawGate gate) is fits saw = claiming_fits actor.others actor slot saw_worn gate (after_claim gate) saw (claim_is gate saw)
goes_in_range actor next (Claim slot saw_worn from to) Won is fits saw = fits.0
goes_in_range actor next (Claim slot saw_worn from to) Lost is fits saw = next_gate_fits actor.others actor slot saw_worn
goes_in_range actor next (FillStatus own) Won is fits saw = fits
goes_in_range actor next (FillCount own) Won is fits saw = fits
goes_in_range actor next (FillAddr own entry) Won is fits saw = fits
goes_in_range actor next (FillExpected own entry) Won is fits saw = fits
goes_in_range actor next (FillNew own entry) Won is fits saw = next_fill_fits actor.others actor own entry fits
goes_in_range actor next (Prepare own) (Filed went_well) is fits saw = prepared_fits actor.others own went_well fits
goes_in_range actor next (ReadTargetStatus task) (SawStatus status) is fits saw = status_fits actor.others task status fits
goes_in_range actor next (Inspect task entry) (SawWord word) is fits saw = inspected_fits actor.others actor next task entry word fits.0 fits.1 (entries_few actor task is.own is.read) saw
goes_in_range actor next (AnnounceRow task entry number) Won is fits saw = (fits.0, fits.2)
goes_in_range actor next (Plant task entry number) Won is fits saw = (fits.0, (is.worker, omega (arith, fits.1)))
goes_in_range actor next (Plant task entry number) Lost is fits saw = fits.0
goes_in_range actor next (ReadOtherRow task entry attempt) (SawRow row) is fits saw = fits
goes_in_range actor next (ConfirmAttempt task entry attempt other) (SawWord word) is fits saw = attempt_fits actor.others task entry attempt other word fits.0 fits.1
goes_in_range actor next (ReadDirtyGate task entry slot value) (SawGate gate) is fits saw = dirty_gate_fits actor.others task entry slot value gate fits
goes_in_range actor next (ConfirmDirty task entry other value) (SawWord word) is fits saw = dirty_fits actor.others task other value word fits
goes_in_range actor next (DecideYes task) Won is fits saw = fits
goes_in_range actor next (DecideYes task) Lost is fits saw = fits
goes_in_range actor next (DecideNo task entry value) Won is fits saw = fits.0
goes_in_range actor next (DecideNo task entry value) Lost is fits saw = fits.0
goes_in_range actor next (CheckThenResolve task entry attempt) (SawStatus status) is fits saw = fits
goes_in_range actor next (Resolve task entry attempt was_open) Won is fits saw = fits.0
goes_in_range actor next (Resolve task entry attempt was_open) Lost is fits saw = fits.0
goes_in_range actor next (ReadOtherGate task other) (SawGate gate) is fits saw = other_gate_fits actor.others task other gate fits saw
goes_in_range actor next (PinOther task other from to) Won is fits saw = turns_to_fits actor.others task other fits.0 fits.1
goes_in_range actor next (PinOther task other from to) Lost is fits saw = fits.0
goes_in_range actor next (ReadCount task) (SawNumber count) is fits saw = count_fits task count fits
goes_in_range actor next (ReadAddr task count) (SawNumber addr) is fits saw = addr_fits actor.others task count addr fits.0 fits.1
goes_in_range actor next (ReadExpected task count addr) (SawNumber expected) is fits saw = expected_fits actor.others task count addr expected fits.0 fits.1 fits.2
goes_in_range actor next (ReadNew task count addr expected) (SawNumber new) is fits saw =
    new_fits actor task count addr expected (record { addr = addr; expected = expected; new = new }) (nat_le new MAX_VALUE) fits.0 fits.1 fits.2 fits.3
goes_in_range actor next (Seal task) (Filed went_well) is fits saw = filed_fits actor.others task went_well fits
goes_in_range actor next (SweepWord task sweep entry) (SawWord word) is fits saw = swept_fits actor.others actor task sweep entry word fits saw
goes_in_range actor next (Release task sweep entry) Won is fits saw = next_sweep_fits actor.others actor task sweep entry fits
goes_in_range actor next (Release task sweep entry) Lost is fits saw = next_sweep_fits actor.others actor task sweep entry fits
goes_in_range actor next (Clean task entry value) Won is fits saw = next_sweep_fits actor.others actor task SweepDoneYes entry fits.0
goes_in_range actor next (Clean task entry value) Lost is fits saw = next_sweep_fits actor.others actor task SweepDoneYes entry fits.0
goes_in_range actor next (SweepRow task sweep entry attempt) (SawRow row) is fits saw = fits
goes_in_range actor next (SweepConfirm task sweep entry attempt other) (SawWord word) is fits saw = sweep_confirmed_fits actor.others actor task sweep entry attempt other word fits.0 fits.1
goes_in_range actor next (SweepResolve task sweep entry attempt) Won is fits saw = next_sweep_fits actor.others actor task sweep entry fits.0
goes_in_range actor next (SweepResolve task sweep entry attempt) Lost is fits saw = next_sweep_fits actor.others actor task sweep entry fits.0
goes_in_range actor next (Settle task) (Filed went_well) is fits saw = filed_fits actor.others task went_well fits
goes_in_range actor next (Cancel task) (Filed went_well) is fits saw = fits
goes_in_range actor next (Unpin slot after) (SawGate gate) is fits saw = unpinned_fits actor.others slot after gate fits.0 fits.1
goes_in_range actor next (FreeSlot slot after) Won is fits saw = fits.1
goes_in_range actor next (LowerDoor after) (SawDoor door) is fits saw = resumed_fits actor.others after fits
goes_in_range actor next (GiveUp own undecided) (SawStatus status) is fits saw = tt
goes_in_range actor next point observation is fits saw = fits

-- the entries read of another's change stay in range
pub others_in_range : (others : List Entry) (point : Point) (observation : Observation) → AreEntriesInRange others → IsPointInRange others point → AreEntriesInRange (others_read others point observation)
others_in_range others (ReadCount task) (SawNumber count) are fits = (omega arith, λ k d low. absurd (omega (arith, low)))
others_in_range others (ReadNew task count addr expected) (SawNumber new) are fits =
    let entry : Entry = record { addr = addr; expected = expected; new = new } in
    either_way AreEntriesInRange (nat_le new MAX_VALUE) (others ++ entry ∷ []) others
    (λ small. (omega (arith, length-append others (entry ∷ []), fits.1.0, fits.1.1), All-push IsEntryInRange others entry are.1 (fits.2, fits.3, is_at_most new MAX_VALUE small)))
    (λ e. are)
others_in_range others point observation are fits = are

-- a request in range is in range after it was told an observation in range
pub tells_in_range : (actor : ActorState) (observation : Observation) (next : ℕ) → IsInRange actor → IsObservationInRange observation → IsInRange (tells actor observation next)
tells_in_range actor observation next is saw = record {
  worker = is.worker;
  quota = is.quota;
  pool = is.pool;
  formed = is.formed;
  job = is.job;
  others = others_in_range actor.others actor.point observation is.others is.point;
  point = goes_in_range actor next actor.point observation (record { worker = is.worker; quota = is.quota; own = is.job.0; read = is.others.0 }) is.point saw;
}

-- a request whose entries and point are given by equations is the request after the step
pub told_so : (actor inside : ActorState) (observation said : Observation) (next : ℕ) (others : List Entry) (point : Point) → inside ≡ actor → observation ≡ said → others ≡ others_read inside.others inside.point observation → point ≡ goes actor next actor.point observation → record inside { others = others; point = point } ≡ tells actor said next
told_so actor inside observation said next others point is same read went =
    let inner : ActorState = inside in
    subst (λ a. record inner { others = others; point = point } ≡ tells a said next) is
    (subst (λ n. record inner { others = others; point = point } ≡ tells inner n next) same
    (λ q. record inner { others = read q; point = (went ∙ ap (λ a. goes a next a.point observation) (sym is)) q }))

-- so it is in range
pub told_in_range : (actor inside : ActorState) (observation : Observation) (next : ℕ) (others : List Entry) (point : Point) → inside ≡ actor → others ≡ others_read inside.others inside.point observation → point ≡ goes actor next actor.point observation → IsInRange inside → IsObservationInRange observation → IsInRange (record inside { others = others; point = point })
told_in_range actor inside observation next others point is read went fits saw =
    subst IsInRange (sym (told_so actor inside observation observation next others point is refl read went)) (tells_in_range actor observation next (subst IsInRange is fits) saw)

-- a request that is no read goes where a change goes
pub goes_as_change : (actor : ActorState) (next : ℕ) (point : Point) (observation : Observation) → ((look : Reading) → point ≡ Read look → ⊥) → changes actor next point observation ≡ goes actor next point observation
goes_as_change actor next (Read look) observation other = absurd (other look refl)
goes_as_change actor next point observation other = refl
