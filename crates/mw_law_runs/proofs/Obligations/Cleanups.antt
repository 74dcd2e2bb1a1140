-- If a word has a change's new value but still names its slot, the change's request will still clean it after the request's
-- next step. Used by: Cleaners, FileCalls.
use Rattle.std.specs.Prelude.{ℕ, ◌≡◌, ◌+◌, ◌==◌, ◌&&◌, true, false, cond, nat_lt, nat_le, length, Option, Some, None}
use Rattle.std.proofs.Common.{sym, ap, ◌∙◌, arith}
use Rattle.std.proofs.lemmas.Bool.Decides.{nat_tests}
use Rattle.mw_words.specs.declared.gates.Gate.{Gate}
use Rattle.mw_words.specs.declared.limits.TheConstants.{MAX_ENTRIES, MAX_VALUE, MAX_WORDS, WORN_NUMBER}
use Rattle.mw_words.specs.declared.replies.Reply.{Reply}
use Rattle.mw_words.specs.declared.replies.Reply.TheVariants.{Yes as SaysYes, Worn as SaysWorn}
use Rattle.mw_words.specs.declared.statuses.Status.{Status}
use Rattle.mw_words.specs.declared.statuses.Status.TheVariants.{Draft, Open, YesDirty, Yes, No, DoneYes, DoneNo}
use Rattle.mw_words.specs.declared.words.Word.{Word}
use Rattle.mw_words.specs.declared.words.Word.TheVariants.{Plain, Planted, Held, Dirty}
use Rattle.mw_pool.specs.Moves.{after_pin}
use Rattle.mw_look.specs.Program.{same_word}
use Rattle.mw_look.proofs.RangeLaws.{either_way}
use Rattle.mw_actor.specs.declared.points.After.{After}
use Rattle.mw_actor.specs.declared.points.After.TheVariants.{Work, GiveUp as ThenGiveUp, Reply as ThenReply}
use Rattle.mw_actor.specs.declared.points.Attempt.{Attempt}
use Rattle.mw_actor.specs.declared.points.Point.{Point}
use Rattle.mw_actor.specs.declared.points.Point.TheVariants.{FillAddr, Prepare, ReadTargetStatus, Inspect, AnnounceRow, ReadDirtyGate, ConfirmDirty, DecideYes, DecideNo, CheckThenResolve, ReadOtherGate, ReadCount, ReadAddr, ReadExpected, ReadNew, SweepWord, Release, Clean, SweepResolve, Unpin, FreeSlot, GiveUp}
use Rattle.mw_actor.specs.declared.points.Slot.{Slot}
use Rattle.mw_actor.specs.declared.points.Sweep.{Sweep}
use Rattle.mw_actor.specs.declared.points.Sweep.TheVariants.{Yes as SweepYes, DoneYes as SweepDoneYes, No as SweepNo, DoneNo as SweepDoneNo}
use Rattle.mw_actor.specs.declared.points.Task.{Task}
use Rattle.mw_actor.specs.ActorState.{ActorState, own_entries, entries_of, entry_of, is_alone, alone, same_slot, planted}
use Rattle.mw_actor.specs.Admission.{next_fill}
use Rattle.mw_actor.specs.RequestEnds.{works, resumed, unpinned, gives_up, refusal, finishes}
use Rattle.mw_actor.specs.Help.{turns_to, helps, pinned, other_gate_read, count_read, addr_read, expected_read, next_read, new_read}
use Rattle.mw_actor.specs.Inspection.{status_read, next_word, attempts, dirty_seen, held_seen, inspected, attempt_met, attempt_confirmed, dirty_gate_read, dirty_confirmed}
use Rattle.mw_law_runs.proofs.Requests.StageLaws.{both_same}
use Rattle.mw_actor.specs.ReleasePhase.{next_sweep, sweep_over, swept, sweep_confirmed}
use Rattle.mw_world.specs.Claim.Obligations.{IsFrom, CleansFrom, GoesOn, CleansAt}
use Rattle.mw_world.specs.Definition.State.{State}
use Rattle.mw_law_runs.proofs.Obligations.Apart.{plain_dirty, planted_dirty, held_dirty}
use Rattle.mw_law_runs.proofs.Obligations.Rounds.{none_from, cleans_next}

-- The next point of a request that is neither in a round over its words nor at its end.
module _ (address : ℕ) (next : ActorState) where
  abbrev Cleans : Point → Type 0
  Cleans = CleansAt next address

  pub fill_cleans : (actor : ActorState) (own : Slot) (entry : ℕ) → CleansAt next address (next_fill actor own entry)
  fill_cleans actor own entry = either_way Cleans (nat_lt (entry + 1) (length (own_entries actor))) (FillAddr own (entry + 1)) (Prepare own) (λ more. tt) (λ last. tt)

  works_cleans : (task : Task) → Cleans (works task)
  works_cleans task = either_way Cleans (is_alone task) (ReadTargetStatus task) (ReadCount task) (λ e. tt) (λ e. tt)

  pub resumed_cleans : (onward : After) → CleansAt next address (resumed onward)
  resumed_cleans (Work task) = works_cleans task
  resumed_cleans (ThenGiveUp own undecided) = tt
  resumed_cleans (ThenReply reply) = tt

  pub unpinned_cleans : (slot : Slot) (onward : After) (gate : Gate) → GoesOn onward → CleansAt next address (unpinned slot onward gate)
  unpinned_cleans slot onward gate goes_on = either_way Cleans (gate.pins == 1) (FreeSlot slot onward) (resumed onward) (λ last. goes_on) (λ more. resumed_cleans onward)

  pub gives_up_cleans : (task : Task) (undecided : Reply) → CleansAt next address (gives_up task undecided)
  gives_up_cleans task undecided = either_way Cleans (is_alone task) (GiveUp task.own undecided) (Unpin task.target (ThenGiveUp task.own undecided)) (λ e. tt) (λ e. tt)

  pub turns_cleans : (task : Task) (other : Slot) → CleansAt next address (turns_to task other)
  turns_cleans task other =
      let turned : Task = record { own = task.own; target = other } in
      either_way Cleans (is_alone task) (works turned) (Unpin task.target (Work turned)) (λ e. works_cleans turned) (λ e. tt)

  helps_cleans : (task : Task) (other : Slot) → Cleans (helps task other)
  helps_cleans task other = either_way Cleans (same_slot other task.own) (turns_to task task.own) (ReadOtherGate task other) (λ e. turns_cleans task task.own) (λ e. tt)

  attempts_clean : (task : Task) (entry number : ℕ) → Cleans (attempts task entry number)
  attempts_clean task entry number = either_way Cleans (nat_lt number WORN_NUMBER) (AnnounceRow task entry number) (gives_up task SaysWorn) (λ low. tt) (λ worn. gives_up_cleans task SaysWorn)

  dirty_seen_cleans : (task : Task) (entry slot value : ℕ) → Cleans (dirty_seen task entry slot value)
  dirty_seen_cleans task entry slot value =
      either_way Cleans (slot == task.target.slot) (ReadTargetStatus task) (cond (slot == task.own.slot) (helps task task.own) (ReadDirtyGate task entry slot value)) (λ e. tt)
      (λ e. either_way Cleans (slot == task.own.slot) (helps task task.own) (ReadDirtyGate task entry slot value) (λ d. helps_cleans task task.own) (λ d. tt))

  held_seen_cleans : (actor : ActorState) (task : Task) (entry : ℕ) (other : Slot) → Cleans (held_seen actor task entry other)
  held_seen_cleans actor task entry other =
      either_way Cleans (same_slot other task.target) (next_word actor task entry) (helps task other)
      (λ e. either_way Cleans (nat_lt (entry + 1) (length (entries_of actor task))) (Inspect task (entry + 1)) (DecideYes task) (λ d. tt) (λ d. tt)) (λ e. helps_cleans task other)

  pub inspected_cleans : (actor : ActorState) (number : ℕ) (task : Task) (entry : ℕ) (word : Word) → CleansAt next address (inspected actor number task entry word)
  inspected_cleans actor number task entry (Plain value) =
      either_way Cleans (value == (entry_of actor task entry).expected) (attempts task entry number) (DecideNo task entry value) (λ e. attempts_clean task entry number) (λ e. tt)
  inspected_cleans actor number task entry (Dirty slot value) =
      either_way Cleans (value == (entry_of actor task entry).expected) (dirty_seen task entry slot value) (DecideNo task entry value) (λ e. dirty_seen_cleans task entry slot value) (λ e. tt)
  inspected_cleans actor number task entry (Held slot seq) = held_seen_cleans actor task entry (record { slot = slot; seq = seq })
  inspected_cleans actor number task entry (Planted worker attempt) = tt

  pub confirmed_cleans : (task : Task) (entry : ℕ) (attempt : Attempt) (other : Slot) (word : Word) → CleansAt next address (attempt_confirmed task entry attempt other word)
  confirmed_cleans task entry attempt other word =
      either_way Cleans (same_word word (planted attempt)) (attempt_met task entry attempt other) (ReadTargetStatus task)
      (λ same. either_way Cleans (same_slot other task.target) (CheckThenResolve task entry attempt) (helps task other) (λ e. tt) (λ e. helps_cleans task other)) (λ was_released. tt)

  pub dirty_gate_cleans : (task : Task) (entry slot value : ℕ) (gate : Gate) → CleansAt next address (dirty_gate_read task entry slot value gate)
  dirty_gate_cleans task entry slot value gate =
      either_way Cleans (gate.taken && nat_le 1 gate.pins) (ConfirmDirty task entry (record { slot = slot; seq = gate.seq }) value) (ReadTargetStatus task) (λ e. tt) (λ e. tt)

  pub dirty_confirmed_cleans : (task : Task) (other : Slot) (value : ℕ) (word : Word) → CleansAt next address (dirty_confirmed task other value word)
  dirty_confirmed_cleans task other value word =
      either_way Cleans (same_word word (Dirty other.slot value)) (helps task other) (ReadTargetStatus task) (λ e. helps_cleans task other) (λ e. tt)

  pinned_cleans : (task : Task) (other : Slot) (gate : Gate) (to : Option Gate) → Cleans (pinned task other gate to)
  pinned_cleans task other gate (Some to) = tt
  pinned_cleans task other gate None = tt

  pub other_gate_cleans : (task : Task) (other : Slot) (gate : Gate) → CleansAt next address (other_gate_read task other gate)
  other_gate_cleans task other gate =
      either_way Cleans (nat_lt other.seq WORN_NUMBER) (pinned task other gate (after_pin gate other.seq)) (ReadTargetStatus task) (λ low. pinned_cleans task other gate (after_pin gate other.seq)) (λ worn. tt)

  pub count_cleans : (task : Task) (count : ℕ) → CleansAt next address (count_read task count)
  count_cleans task count = either_way Cleans (nat_le 1 count && nat_le count MAX_ENTRIES) (ReadAddr task count) (ReadCount task) (λ e. tt) (λ e. tt)

  pub addr_cleans : (task : Task) (count addr : ℕ) → CleansAt next address (addr_read task count addr)
  addr_cleans task count addr = either_way Cleans (nat_lt addr MAX_WORDS) (ReadExpected task count addr) (ReadAddr task count) (λ e. tt) (λ e. tt)

  pub expected_cleans : (task : Task) (count addr expected : ℕ) → CleansAt next address (expected_read task count addr expected)
  expected_cleans task count addr expected = either_way Cleans (nat_le expected MAX_VALUE) (ReadNew task count addr expected) (ReadExpected task count addr) (λ e. tt) (λ e. tt)

  pub new_cleans : (actor : ActorState) (task : Task) (count addr expected new : ℕ) → CleansAt next address (new_read actor task count addr expected new)
  new_cleans actor task count addr expected new =
      either_way Cleans (nat_le new MAX_VALUE) (next_read actor task count) (ReadNew task count addr expected)
      (λ e. either_way Cleans (nat_lt (length actor.others + 1) count) (ReadAddr task count) (ReadTargetStatus task) (λ d. tt) (λ d. tt)) (λ e. tt)

-- the round isn't the last one over a refused change's words
abbrev pub IsNotRefused : Sweep → Type 0
IsNotRefused (SweepDoneNo index found) = ⊥
IsNotRefused sweep = Unit {0}

slots_same : (one other : Slot) → one.slot ≡ other.slot → one.seq ≡ other.seq → one ≡ other
slots_same one other same_place same_number = ap (λ (slot : ℕ). of slot one.seq) same_place ∙ ap (λ (seq : ℕ). of other.slot seq) same_number
  where
    of : ℕ → ℕ → Slot
    of slot seq = record { slot = slot; seq = seq }

alone_same : (task : Task) → is_alone task ≡ true → task.target ≡ task.own
alone_same task is =
    let same = both_same task.target.slot task.target.seq task.own.slot task.own.seq is in
    slots_same task.target task.own same.0 same.1

other_dirty : (place number slot value : ℕ) → Dirty place number ≡ Dirty slot value → (place == slot) ≡ false → ⊥
other_dirty place number slot value is apart = grind (arith, nat_tests, is, apart)

-- The next point of a request in a round.
module _ (address : ℕ) (actor : ActorState) (point : Point) (task : Task) where
  abbrev CleansNow : Point → Type 0
  CleansNow = CleansAt (record actor { point = point }) address

  pub status_cleans : (status : Status) → (task.target ≡ task.own → IsFrom (entries_of actor task) 0 address) → CleansAt (record actor { point = point }) address (status_read task status)
  status_cleans Draft from = tt
  status_cleans Open from = tt
  status_cleans YesDirty from = tt
  status_cleans Yes from = λ same. tt
  status_cleans DoneYes from = from
  status_cleans (No entry value) from = λ same. tt
  status_cleans (DoneNo entry value) from = λ same. tt

  finishes_cleans : (reply : Reply) → (is_alone task ≡ true → ⊥) → CleansNow (finishes task reply)
  finishes_cleans reply apart =
      either_way CleansNow (is_alone task) (Unpin task.own (ThenReply reply)) (Unpin task.target (Work (alone task.own))) (λ is. apart is) (λ other. tt)

  over_cleans : (sweep : Sweep) (entry : ℕ) → nat_lt (entry + 1) (length (entries_of actor task)) ≡ false
      → (task.target ≡ task.own → CleansFrom sweep (entries_of actor task) (entry + 1) address) → (task.target ≡ task.own → IsNotRefused sweep) → CleansNow (sweep_over actor task sweep)
  over_cleans SweepYes entry last cleans decided = tt
  over_cleans SweepNo entry last cleans decided = tt
  over_cleans SweepDoneYes entry last cleans decided = finishes_cleans SaysYes (λ is. none_from (entries_of actor task) entry address last (cleans (alone_same task is)))
  over_cleans (SweepDoneNo index found) entry last cleans decided = finishes_cleans (refusal actor index found) (λ is. decided (alone_same task is))

  pub next_cleans : (sweep : Sweep) (entry : ℕ) → (task.target ≡ task.own → CleansFrom sweep (entries_of actor task) (entry + 1) address) → (task.target ≡ task.own → IsNotRefused sweep)
      → CleansAt (record actor { point = point }) address (next_sweep actor task sweep entry)
  next_cleans sweep entry cleans decided =
      either_way CleansNow (nat_lt (entry + 1) (length (entries_of actor task))) (SweepWord task sweep (entry + 1)) (sweep_over actor task sweep) (λ more. cleans)
      (λ last. over_cleans sweep entry last cleans decided)

  pub sweep_confirmed_cleans : (sweep : Sweep) (entry : ℕ) (attempt : Attempt) (other : Slot) (word : Word)
      → (task.target ≡ task.own → CleansFrom sweep (entries_of actor task) (entry + 1) address) → (task.target ≡ task.own → IsNotRefused sweep)
      → CleansAt (record actor { point = point }) address (sweep_confirmed actor task sweep entry attempt other word)
  sweep_confirmed_cleans sweep entry attempt other word cleans decided =
      either_way CleansNow (same_word word (planted attempt) && same_slot other task.target) (SweepResolve task sweep entry attempt) (next_sweep actor task sweep entry)
      (λ same. cleans) (λ was_released. next_cleans sweep entry cleans decided)

  -- from the word of an entry, when the request's own change has written a word
  module _ (state : State) (value : ℕ) (word_dirty : task.target ≡ task.own → state.cells.words actor.tenant address ≡ Dirty task.target.slot value) (entry : ℕ) where
    goes_past : (word : Word) → (task.target ≡ task.own → CleansFrom SweepDoneYes (entries_of actor task) entry address)
        → state.cells.words actor.tenant (entry_of actor task entry).addr ≡ word → (word ≡ Dirty task.target.slot value → ⊥) → task.target ≡ task.own
        → CleansFrom SweepDoneYes (entries_of actor task) (entry + 1) address
    goes_past word cleans saw apart same =
        cleans_next SweepDoneYes (entries_of actor task) entry address
        (λ here. apart (sym saw ∙ ap (λ (addr : ℕ). state.cells.words actor.tenant addr) here ∙ word_dirty same)) (cleans same)

    held_cleans : (sweep : Sweep) (other : Slot) → (task.target ≡ task.own → CleansFrom sweep (entries_of actor task) (entry + 1) address)
        → (task.target ≡ task.own → IsNotRefused sweep) → CleansNow (cond (same_slot other task.target) (Release task sweep entry) (next_sweep actor task sweep entry))
    held_cleans sweep other cleans decided =
        either_way CleansNow (same_slot other task.target) (Release task sweep entry) (next_sweep actor task sweep entry) (λ same. tt) (λ apart. next_cleans sweep entry cleans decided)

    dirty_cleans : (slot number : ℕ) → (task.target ≡ task.own → CleansFrom SweepDoneYes (entries_of actor task) entry address)
        → state.cells.words actor.tenant (entry_of actor task entry).addr ≡ Dirty slot number
        → CleansNow (cond (slot == task.target.slot) (Clean task entry number) (next_sweep actor task SweepDoneYes entry))
    dirty_cleans slot number cleans saw =
        either_way CleansNow (slot == task.target.slot) (Clean task entry number) (next_sweep actor task SweepDoneYes entry) (λ same. cleans)
        (λ apart. next_cleans SweepDoneYes entry (goes_past (Dirty slot number) cleans saw (λ is. other_dirty slot number task.target.slot value is apart)) (λ same. tt))

    pub swept_cleans : (sweep : Sweep) (word : Word) → (task.target ≡ task.own → CleansFrom sweep (entries_of actor task) entry address) → (task.target ≡ task.own → IsNotRefused sweep)
        → state.cells.words actor.tenant (entry_of actor task entry).addr ≡ word
        → CleansAt (record actor { point = point }) address (swept actor task sweep entry word)
    swept_cleans SweepYes (Plain number) cleans decided saw = next_cleans SweepYes entry (λ same. tt) decided
    swept_cleans SweepYes (Planted worker number) cleans decided saw = next_cleans SweepYes entry (λ same. tt) decided
    swept_cleans SweepYes (Held slot seq) cleans decided saw = held_cleans SweepYes (record { slot = slot; seq = seq }) (λ same. tt) decided
    swept_cleans SweepYes (Dirty slot number) cleans decided saw = next_cleans SweepYes entry (λ same. tt) decided
    swept_cleans SweepNo (Plain number) cleans decided saw = next_cleans SweepNo entry (λ same. tt) decided
    swept_cleans SweepNo (Planted worker number) cleans decided saw = λ same. tt
    swept_cleans SweepNo (Held slot seq) cleans decided saw = held_cleans SweepNo (record { slot = slot; seq = seq }) (λ same. tt) decided
    swept_cleans SweepNo (Dirty slot number) cleans decided saw = next_cleans SweepNo entry (λ same. tt) decided
    swept_cleans (SweepDoneNo index found) (Plain number) cleans decided saw = next_cleans (SweepDoneNo index found) entry (λ same. tt) decided
    swept_cleans (SweepDoneNo index found) (Planted worker number) cleans decided saw = λ same. tt
    swept_cleans (SweepDoneNo index found) (Held slot seq) cleans decided saw = held_cleans (SweepDoneNo index found) (record { slot = slot; seq = seq }) (λ same. tt) decided
    swept_cleans (SweepDoneNo index found) (Dirty slot number) cleans decided saw = next_cleans (SweepDoneNo index found) entry (λ same. tt) decided
    swept_cleans SweepDoneYes (Plain number) cleans decided saw =
        next_cleans SweepDoneYes entry (goes_past (Plain number) cleans saw (plain_dirty number task.target.slot value)) decided
    swept_cleans SweepDoneYes (Planted worker number) cleans decided saw = goes_past (Planted worker number) cleans saw (planted_dirty worker number task.target.slot value)
    swept_cleans SweepDoneYes (Held slot seq) cleans decided saw =
        next_cleans SweepDoneYes entry (goes_past (Held slot seq) cleans saw (held_dirty slot seq task.target.slot value)) decided
    swept_cleans SweepDoneYes (Dirty slot number) cleans decided saw = dirty_cleans slot number cleans saw
