-- After each step, a request's point names only slots of the pool, and entries that a change may have.
-- Used by: PlaceInvariant, There.
use Rattle.std.specs.Prelude.{ℕ, ◌≡◌, ◌≤◌, ◌<◌, ◌+◌, ◌-◌, ◌==◌, ◌&&◌, ◌||◌, Bool, true, false, nat_lt, nat_le, List, length, Option, Some, None}
use Rattle.std.proofs.Common.{refl, sym, ap, subst, ◌∙◌, arith}
use Rattle.std.proofs.lemmas.Bool.Decides.{nat_tests}
use Rattle.mw_words.specs.declared.doors.Door.{Door}
use Rattle.mw_words.specs.declared.gates.Gate.{Gate}
use Rattle.mw_words.specs.declared.limits.TheConstants.{MAX_ENTRIES, MAX_VALUE, MAX_WORDS, WORN_NUMBER}
use Rattle.mw_words.specs.declared.replies.Reply.{Reply}
use Rattle.mw_words.specs.declared.replies.Reply.TheVariants.{Worn as SaysWorn, Fault as SaysFault, Yes as SaysYes}
use Rattle.mw_words.specs.declared.rows.Row.{Row}
use Rattle.mw_words.specs.declared.statuses.Status.{Status}
use Rattle.mw_words.specs.declared.statuses.Status.TheVariants.{Draft, Open, YesDirty, Yes, No, DoneYes, DoneNo}
use Rattle.mw_words.specs.declared.words.Word.{Word}
use Rattle.mw_words.specs.declared.words.Word.TheVariants.{Plain, Planted, Held, Dirty}
use Rattle.mw_words.specs.Change.{is_change}
use Rattle.mw_words.specs.declared.jobs.Entry.{Entry}
use Rattle.mw_pool.specs.declared.doors.Admission.{Admission}
use Rattle.mw_pool.specs.declared.doors.Admission.TheVariants.{Fault as HasFailed, Busy as IsBusy, To}
use Rattle.mw_pool.specs.Moves.{after_admit, after_claim, after_pin}
use Rattle.mw_look.specs.declared.observations.Observation.{Observation}
use Rattle.mw_look.specs.declared.observations.Observation.TheVariants.{SawDoor, SawGate, SawRow, SawWord, SawStatus, SawNumber, Won, Lost, Filed}
use Rattle.mw_look.specs.declared.points.After.{After as AfterRead}
use Rattle.mw_look.specs.declared.points.After.TheVariants.{Again, Answer}
use Rattle.mw_look.specs.declared.points.Point.{Point as ReadPoint}
use Rattle.mw_look.specs.declared.points.Point.TheVariants as read
use Rattle.mw_look.specs.declared.points.Trail.{Trail}
use Rattle.mw_look.specs.declared.points.Trail.TheVariants.{Held as ByHeld, Planted as ByPlanted}
use Rattle.mw_look.specs.Observations.{seen}
use Rattle.mw_look.specs.Program.{word_seen, word_of, same_word, slot_of, seq_of, first_entry, next_entry, address_seen, pinning, resumed as read_resumed, goes as read_goes}
use Rattle.mw_look.specs.Program as look_program
use Rattle.mw_look.specs.Steps.{Step, Load, Change, File as FileStep}
use Rattle.mw_look.proofs.RangeLaws.{either_way}
use Rattle.mw_actor.specs.declared.points.After.{After}
use Rattle.mw_actor.specs.declared.points.After.TheVariants.{Work, GiveUp as ThenGiveUp, Reply as ThenReply}
use Rattle.mw_actor.specs.declared.points.Attempt.{Attempt}
use Rattle.mw_actor.specs.declared.points.Point.{Point}
use Rattle.mw_actor.specs.declared.points.Point.TheVariants.{Read, ReadDoor, Admit, ScanGate, Claim, FillStatus, FillCount, FillAddr, FillExpected, FillNew, Prepare, ReadTargetStatus, Inspect, AnnounceRow, Plant, ReadOtherRow, ConfirmAttempt, ReadDirtyGate, ConfirmDirty, DecideYes, DecideNo, CheckThenResolve, Resolve, ReadOtherGate, PinOther, ReadCount, ReadAddr, ReadExpected, ReadNew, Seal, SweepWord, Release, Clean, SweepRow, SweepConfirm, SweepResolve, Settle, Cancel, Unpin, FreeSlot, LowerDoor, GiveUp, Replied}
use Rattle.mw_actor.specs.declared.points.Slot.{Slot}
use Rattle.mw_actor.specs.declared.points.Sweep.{Sweep}
use Rattle.mw_actor.specs.declared.points.Sweep.TheVariants.{Yes as SweepYes, No as SweepNo, DoneYes as SweepDoneYes, DoneNo as SweepDoneNo}
use Rattle.mw_actor.specs.declared.points.Task.{Task}
use Rattle.mw_actor.specs.ActorState.{ActorState, alone, entries_of, entry_of, is_alone, own_entries, planted, same_slot, row_slot}
use Rattle.mw_actor.specs.Admission.{admitted, round_over, next_gate, is_worn, claiming, next_fill, prepared}
use Rattle.mw_actor.specs.Asks.{asks_at}
use Rattle.mw_actor.specs.RequestEnds.{works, resumed, unpinned, gives_up, finishes, refusal}
use Rattle.mw_actor.specs.Help.{turns_to, helps, pinned, other_gate_read, count_read, addr_read, expected_read, next_read, new_read}
use Rattle.mw_actor.specs.Inspection.{status_read, next_word, attempts, dirty_seen, held_seen, inspected, attempt_met, attempt_confirmed, dirty_gate_read, dirty_confirmed}
use Rattle.mw_actor.specs.Program.{goes}
use Rattle.mw_actor.specs.ReleasePhase.{filed, sweep_over, next_sweep, held_swept, dirty_swept, attempt_swept, swept, sweep_confirmed}
use Rattle.mw_world.specs.declared.config.Config.{Config}
use Rattle.mw_world.specs.Definition.Cells.{Cells, read as read_cell}
use Rattle.mw_world.specs.Definition.State.{State, tenant_at}
use Rattle.mw_law_runs.specs.Moves.Memory.{Memory}
use Rattle.mw_law_runs.specs.Knowledge.Facts.{CameBy}
use Rattle.mw_law_runs.specs.Knowledge.Informed.{IsInformed}
use Rattle.mw_law_runs.specs.Knowledge.Points.{ReadKnows}
use Rattle.mw_law_runs.specs.Places.{IsWithin, ReadIsWithin}

-- a load tells a request what is at the place
abbrev pub IsTold : Cells → Step → Observation → Type 0
IsTold cells (Load at) observation = observation ≡ seen at (read_cell cells at)
IsTold cells step observation = Unit {0}

-- the slot that a word names is of the pool
abbrev NamesSlotOf : ℕ → Word → Type 0
NamesSlotOf pool (Held slot seq) = slot < pool
NamesSlotOf pool (Dirty slot value) = slot < pool
NamesSlotOf pool word = Unit {0}

of_word : (one other : Word) → SawWord one ≡ SawWord other → other ≡ one
of_word one other e = cc

of_row : (one other : Row) → SawRow one ≡ SawRow other → other ≡ one
of_row one other e = cc

low_of : (n m : ℕ) → nat_lt n m ≡ true → n < m
low_of n m is = grind (arith, nat_tests, is)

-- The points of a change, with a pool of so many slots.
module _ (pool : ℕ) where
  works_within : (task : Task) → IsWithin pool (works task)
  works_within task = either_way (IsWithin pool) (is_alone task) (ReadTargetStatus task) (ReadCount task) (λ one. tt) (λ two. tt)

  resumed_within : (after : After) → IsWithin pool (resumed after)
  resumed_within (Work task) = works_within task
  resumed_within (ThenGiveUp own undecided) = tt
  resumed_within (ThenReply reply) = tt

  turns_within : (task : Task) (other : Slot) → IsWithin pool (turns_to task other)
  turns_within task other = either_way (IsWithin pool) (is_alone task) (works (record { own = task.own; target = other })) (Unpin task.target (Work (record { own = task.own; target = other })))
      (λ one. works_within (record { own = task.own; target = other })) (λ two. tt)

  helps_within : (task : Task) (other : Slot) → other.slot < pool → IsWithin pool (helps task other)
  helps_within task other low = either_way (IsWithin pool) (same_slot other task.own) (turns_to task task.own) (ReadOtherGate task other) (λ own. turns_within task task.own) (λ apart. low)

  gives_up_within : (task : Task) (reply : Reply) → IsWithin pool (gives_up task reply)
  gives_up_within task reply = either_way (IsWithin pool) (is_alone task) (GiveUp task.own reply) (Unpin task.target (ThenGiveUp task.own reply)) (λ one. tt) (λ two. tt)

  finishes_within : (task : Task) (reply : Reply) → IsWithin pool (finishes task reply)
  finishes_within task reply = either_way (IsWithin pool) (is_alone task) (Unpin task.own (ThenReply reply)) (Unpin task.target (Work (alone task.own))) (λ one. tt) (λ two. tt)

  status_within : (task : Task) (status : Status) → IsWithin pool (status_read task status)
  status_within task Draft = tt
  status_within task Open = tt
  status_within task YesDirty = tt
  status_within task Yes = tt
  status_within task DoneYes = tt
  status_within task (No entry value) = tt
  status_within task (DoneNo entry value) = tt

  attempts_within : (task : Task) (entry next : ℕ) → IsWithin pool (attempts task entry next)
  attempts_within task entry next = either_way (IsWithin pool) (nat_lt next WORN_NUMBER) (AnnounceRow task entry next) (gives_up task SaysWorn) (λ low. tt) (λ worn. gives_up_within task SaysWorn)

  dirty_seen_within : (task : Task) (entry slot value : ℕ) → task.own.slot < pool → slot < pool → IsWithin pool (dirty_seen task entry slot value)
  dirty_seen_within task entry slot value own low =
      either_way (IsWithin pool) (slot == task.target.slot) (ReadTargetStatus task) _ (λ same. tt)
      (λ apart. either_way (IsWithin pool) (slot == task.own.slot) (helps task task.own) (ReadDirtyGate task entry slot value) (λ its. helps_within task task.own own) (λ other. low))

  attempt_met_within : (task : Task) (entry : ℕ) (attempt : Attempt) (other : Slot) → other.slot < pool → IsWithin pool (attempt_met task entry attempt other)
  attempt_met_within task entry attempt other low =
      either_way (IsWithin pool) (same_slot other task.target) (CheckThenResolve task entry attempt) (helps task other) (λ same. tt) (λ apart. helps_within task other low)

  attempt_confirmed_within : (task : Task) (entry : ℕ) (attempt : Attempt) (other : Slot) (word : Word) → other.slot < pool → IsWithin pool (attempt_confirmed task entry attempt other word)
  attempt_confirmed_within task entry attempt other word low =
      either_way (IsWithin pool) (same_word word (planted attempt)) (attempt_met task entry attempt other) (ReadTargetStatus task) (λ same. attempt_met_within task entry attempt other low) (λ apart. tt)

  dirty_gate_within : (task : Task) (entry slot value : ℕ) (gate : Gate) → slot < pool → IsWithin pool (dirty_gate_read task entry slot value gate)
  dirty_gate_within task entry slot value gate low =
      either_way (IsWithin pool) (gate.taken && nat_le 1 gate.pins) (ConfirmDirty task entry (record { slot = slot; seq = gate.seq }) value) (ReadTargetStatus task) (λ taken. low) (λ was_released. tt)

  dirty_confirmed_within : (task : Task) (other : Slot) (value : ℕ) (word : Word) → other.slot < pool → IsWithin pool (dirty_confirmed task other value word)
  dirty_confirmed_within task other value word low =
      either_way (IsWithin pool) (same_word word (Dirty other.slot value)) (helps task other) (ReadTargetStatus task) (λ same. helps_within task other low) (λ apart. tt)

  pinned_within : (task : Task) (other : Slot) (gate : Gate) (to : Option Gate) → other.slot < pool → IsWithin pool (pinned task other gate to)
  pinned_within task other gate (Some to) low = low
  pinned_within task other gate None low = tt

  other_gate_within : (task : Task) (other : Slot) (gate : Gate) → other.slot < pool → IsWithin pool (other_gate_read task other gate)
  other_gate_within task other gate low =
      either_way (IsWithin pool) (nat_lt other.seq WORN_NUMBER) (pinned task other gate (after_pin gate other.seq)) (ReadTargetStatus task)
      (λ fit. pinned_within task other gate (after_pin gate other.seq) low) (λ worn. tt)

  admitted_within : (next : ℕ) (door : Door) (says : Admission) → IsWithin pool (admitted next door says)
  admitted_within next door HasFailed = tt
  admitted_within next door IsBusy = tt
  admitted_within next door (To to) = either_way (IsWithin pool) (nat_lt next WORN_NUMBER) (Admit door to) (Replied SaysWorn) (λ low. tt) (λ worn. tt)

  filed_within : (task : Task) (went_well : Bool) → IsWithin pool (filed task went_well)
  filed_within task true = tt
  filed_within task false = gives_up_within task SaysFault

  prepared_within : (own : Slot) (went_well : Bool) → IsWithin pool (prepared own went_well)
  prepared_within own true = tt
  prepared_within own false = tt

  module _ (actor : ActorState) where
    next_gate_within : actor.pool ≡ pool → 1 ≤ pool → (slot : ℕ) (saw_worn : Bool) → IsWithin pool (next_gate actor slot saw_worn)
    next_gate_within same some slot saw_worn =
        either_way (IsWithin pool) (nat_lt (slot + 1) actor.pool) (ScanGate (slot + 1) saw_worn) (round_over saw_worn)
        (λ more. omega (arith, low_of (slot + 1) actor.pool more, same))
        (λ last. either_way (IsWithin pool) saw_worn (LowerDoor (ThenReply SaysWorn)) (ScanGate 0 false) (λ worn. tt) (λ again. omega (arith, some)))

    claiming_within : actor.pool ≡ pool → 1 ≤ pool → (slot : ℕ) (saw_worn : Bool) (gate : Gate) (to : Option Gate) → slot < pool → IsWithin pool (claiming actor slot saw_worn gate to)
    claiming_within same some slot saw_worn gate (Some to) low = low
    claiming_within same some slot saw_worn gate None low = next_gate_within same some slot (saw_worn || is_worn gate)

    next_fill_within : (own : Slot) (entry : ℕ) → IsWithin pool (next_fill actor own entry)
    next_fill_within own entry = either_way (IsWithin pool) (nat_lt (entry + 1) (length (own_entries actor))) (FillAddr own (entry + 1)) (Prepare own) (λ more. tt) (λ last. tt)

    next_word_within : (task : Task) (entry : ℕ) → IsWithin pool (next_word actor task entry)
    next_word_within task entry = either_way (IsWithin pool) (nat_lt (entry + 1) (length (entries_of actor task))) (Inspect task (entry + 1)) (DecideYes task) (λ more. tt) (λ last. tt)

    held_seen_within : (task : Task) (entry : ℕ) (other : Slot) → other.slot < pool → IsWithin pool (held_seen actor task entry other)
    held_seen_within task entry other low =
        either_way (IsWithin pool) (same_slot other task.target) (next_word actor task entry) (helps task other) (λ same. next_word_within task entry) (λ apart. helps_within task other low)

    inspected_within : (next : ℕ) (task : Task) (entry : ℕ) (word : Word) → task.own.slot < pool → NamesSlotOf pool word → IsWithin pool (inspected actor next task entry word)
    inspected_within next task entry (Plain value) own low =
        either_way (IsWithin pool) (value == (entry_of actor task entry).expected) (attempts task entry next) (DecideNo task entry value) (λ same. attempts_within task entry next) (λ apart. tt)
    inspected_within next task entry (Dirty slot value) own low =
        either_way (IsWithin pool) (value == (entry_of actor task entry).expected) (dirty_seen task entry slot value) (DecideNo task entry value)
        (λ same. dirty_seen_within task entry slot value own low) (λ apart. tt)
    inspected_within next task entry (Held slot seq) own low = held_seen_within task entry (record { slot = slot; seq = seq }) low
    inspected_within next task entry (Planted worker number) own low = tt

    next_read_within : (task : Task) (count : ℕ) → IsWithin pool (next_read actor task count)
    next_read_within task count = either_way (IsWithin pool) (nat_lt (length actor.others + 1) count) (ReadAddr task count) (ReadTargetStatus task) (λ more. tt) (λ last. tt)

    sweep_over_within : (task : Task) (sweep : Sweep) → IsWithin pool (sweep_over actor task sweep)
    sweep_over_within task SweepYes = tt
    sweep_over_within task SweepDoneYes = finishes_within task SaysYes
    sweep_over_within task SweepNo = tt
    sweep_over_within task (SweepDoneNo entry value) = finishes_within task (refusal actor entry value)

    next_sweep_within : (task : Task) (sweep : Sweep) (entry : ℕ) → IsWithin pool (next_sweep actor task sweep entry)
    next_sweep_within task sweep entry =
        either_way (IsWithin pool) (nat_lt (entry + 1) (length (entries_of actor task))) (SweepWord task sweep (entry + 1)) (sweep_over actor task sweep) (λ more. tt) (λ last. sweep_over_within task sweep)

    held_swept_within : (task : Task) (sweep : Sweep) (entry : ℕ) (slot : Slot) → IsWithin pool (held_swept actor task sweep entry slot)
    held_swept_within task SweepDoneYes entry slot = next_sweep_within task SweepDoneYes entry
    held_swept_within task SweepYes entry slot = either_way (IsWithin pool) (same_slot slot task.target) (Release task SweepYes entry) (next_sweep actor task SweepYes entry) (λ same. tt) (λ apart. next_sweep_within task SweepYes entry)
    held_swept_within task SweepNo entry slot = either_way (IsWithin pool) (same_slot slot task.target) (Release task SweepNo entry) (next_sweep actor task SweepNo entry) (λ same. tt) (λ apart. next_sweep_within task SweepNo entry)
    held_swept_within task (SweepDoneNo at value) entry slot = either_way (IsWithin pool) (same_slot slot task.target) (Release task (SweepDoneNo at value) entry) (next_sweep actor task (SweepDoneNo at value) entry) (λ same. tt) (λ apart. next_sweep_within task (SweepDoneNo at value) entry)

    dirty_swept_within : (task : Task) (sweep : Sweep) (entry slot value : ℕ) → IsWithin pool (dirty_swept actor task sweep entry slot value)
    dirty_swept_within task SweepDoneYes entry slot value =
        either_way (IsWithin pool) (slot == task.target.slot) (Clean task entry value) (next_sweep actor task SweepDoneYes entry) (λ same. tt) (λ apart. next_sweep_within task SweepDoneYes entry)
    dirty_swept_within task SweepYes entry slot value = next_sweep_within task SweepYes entry
    dirty_swept_within task SweepNo entry slot value = next_sweep_within task SweepNo entry
    dirty_swept_within task (SweepDoneNo at found) entry slot value = next_sweep_within task (SweepDoneNo at found) entry

    attempt_swept_within : (task : Task) (sweep : Sweep) (entry : ℕ) (attempt : Attempt) → IsWithin pool (attempt_swept actor task sweep entry attempt)
    attempt_swept_within task SweepYes entry attempt = next_sweep_within task SweepYes entry
    attempt_swept_within task SweepNo entry attempt = tt
    attempt_swept_within task SweepDoneYes entry attempt = tt
    attempt_swept_within task (SweepDoneNo at value) entry attempt = tt

    swept_within : (task : Task) (sweep : Sweep) (entry : ℕ) (word : Word) → IsWithin pool (swept actor task sweep entry word)
    swept_within task sweep entry (Plain value) = next_sweep_within task sweep entry
    swept_within task sweep entry (Planted worker number) = attempt_swept_within task sweep entry (record { worker = worker; number = number })
    swept_within task sweep entry (Held slot seq) = held_swept_within task sweep entry (record { slot = slot; seq = seq })
    swept_within task sweep entry (Dirty slot value) = dirty_swept_within task sweep entry slot value

    sweep_confirmed_within : (task : Task) (sweep : Sweep) (entry : ℕ) (attempt : Attempt) (other : Slot) (word : Word) → IsWithin pool (sweep_confirmed actor task sweep entry attempt other word)
    sweep_confirmed_within task sweep entry attempt other word =
        either_way (IsWithin pool) (same_word word (planted attempt) && same_slot other task.target) (SweepResolve task sweep entry attempt) (next_sweep actor task sweep entry)
        (λ same. tt) (λ apart. next_sweep_within task sweep entry)

-- a read's points
word_seen_within : (word : Word) → ReadIsWithin (word_seen word)
word_seen_within (Plain value) = tt
word_seen_within (Dirty slot value) = tt
word_seen_within (Held slot seq) = tt
word_seen_within (Planted worker attempt) = tt

read_pinned_within : (trail : Trail) (gate : Gate) (to : Option Gate) → ReadIsWithin (look_program.pinned trail gate to)
read_pinned_within trail gate (Some to) = tt
read_pinned_within trail gate None = tt

pinning_within : (trail : Trail) (gate : Gate) → ReadIsWithin (pinning trail gate)
pinning_within trail gate =
    either_way ReadIsWithin (nat_lt (seq_of trail) WORN_NUMBER) (look_program.pinned trail gate (after_pin gate (seq_of trail))) read.ReadDoor
    (λ low. read_pinned_within trail gate (after_pin gate (seq_of trail))) (λ worn. tt)

read_resumed_within : (after : AfterRead) → ReadIsWithin (read_resumed after)
read_resumed_within Again = tt
read_resumed_within (Answer value) = tt

next_entry_within : (trail : Trail) (status : Status) (entry : ℕ) → ReadIsWithin (next_entry trail status entry)
next_entry_within trail status entry =
    either_way ReadIsWithin (nat_lt entry (MAX_ENTRIES - 1)) (read.FindEntry trail status (entry + 1)) (read.Unpin (slot_of trail) (seq_of trail) Again)
    (λ more. omega (arith, low_of entry (MAX_ENTRIES - 1) more)) (λ last. tt)

pub few_entries : (words : ℕ) (entries : List Entry) → is_change words entries ≡ true → length entries ≤ MAX_ENTRIES
few_entries words entries is = grind (arith, nat_tests, is)

module _ (config : Config) (state : State) (memory : Memory config state) where
  first_entry_within : (tenant address : ℕ) (trail : Trail) (status : Status) → CameBy state tenant address trail → ReadIsWithin (first_entry trail status)
  first_entry_within tenant address (ByHeld slot seq) status came = omega arith
  first_entry_within tenant address (ByPlanted worker attempt row) status came =
      omega (arith, came.entry.within, few_entries (tenant_at config (state.history.tenant row.slot row.seq)).words (state.history.change row.slot row.seq) (memory.claims.formed row.slot row.seq came.known.is_claimed).1)

  read_within : (tenant address : ℕ) (point : ReadPoint) (observation : Observation) → ((trail : Trail) → point ≡ read.ReadStatus trail → CameBy state tenant address trail) → ReadIsWithin point
      → ReadIsWithin (read_goes address point observation)
  read_within tenant address read.ReadDoor (SawDoor door) came within = either_way ReadIsWithin door.fault _ read.ReadWord (λ failed. tt) (λ fine. tt)
  read_within tenant address read.ReadWord (SawWord word) came within = word_seen_within word
  read_within tenant address (read.ReadRow worker attempt) (SawRow row) came within = tt
  read_within tenant address (read.ConfirmWord trail) (SawWord word) came within = either_way ReadIsWithin (same_word word (word_of trail)) (read.ReadGate trail) read.ReadDoor (λ same. tt) (λ apart. tt)
  read_within tenant address (read.ReadGate trail) (SawGate gate) came within = pinning_within trail gate
  read_within tenant address (read.Pin trail from to) Won came within = tt
  read_within tenant address (read.Pin trail from to) Lost came within = tt
  read_within tenant address (read.ReadStatus trail) (SawStatus status) came within = first_entry_within tenant address trail status (came trail refl)
  read_within tenant address (read.FindEntry trail status entry) (SawNumber number) came within =
      either_way ReadIsWithin (number == address) (read.ReadExpected trail status entry) (next_entry trail status entry) (λ same. within) (λ apart. next_entry_within trail status entry)
  read_within tenant address (read.ReadExpected trail status entry) (SawNumber expected) came within = within
  read_within tenant address (read.ReadNew trail status entry expected) (SawNumber new) came within = tt
  read_within tenant address (read.RecheckWord trail status expected new) (SawWord word) came within = tt
  read_within tenant address (read.Unpin slot seq after) (SawGate gate) came within = either_way ReadIsWithin (gate.pins == 1) (read.FreeSlot slot seq after) (read_resumed after) (λ last. tt) (λ more. read_resumed_within after)
  read_within tenant address (read.FreeSlot slot seq after) Won came within = tt
  read_within tenant address (read.LowerDoor after) (SawDoor door) came within = read_resumed_within after
  read_within tenant address point observation came within = within

  came_at : (tenant address : ℕ) (point : ReadPoint) (trail : Trail) → ReadKnows state tenant address point → point ≡ read.ReadStatus trail → CameBy state tenant address trail
  came_at tenant address point trail knows is = subst (λ (at : ReadPoint). ReadKnows state tenant address at) is knows

  -- a word names a slot of the pool
  names : (tenant address : ℕ) (word : Word) → state.cells.words tenant address ≡ word → NamesSlotOf config.pool word
  names tenant address (Plain value) is = tt
  names tenant address (Planted worker number) is = tt
  names tenant address (Held slot seq) is = memory.claims.there slot (memory.references.held tenant address slot seq is).pinned.0.0
  names tenant address (Dirty slot value) is = memory.claims.there slot (memory.references.dirty tenant address slot value is).pinned.0.0

module _ (config : Config) (state : State) (actor : ActorState) (next : ℕ) where
  at_point : (point : Point) (observation : Observation) → let me = record actor { point = point } in IsInformed config state me → IsTold state.cells (asks_at me point) observation → IsWithin config.pool point
      → IsWithin config.pool (goes me next point observation)
  at_point (Read look) observation informed is within =
      read_within config state informed.memory look.tenant look.address look.point observation (λ trail at. came_at config state informed.memory look.tenant look.address look.point trail informed.knows at) within
  at_point ReadDoor (SawDoor door) informed is within = admitted_within config.pool next door (after_admit door actor.quota)
  at_point (Admit from to) Won informed is within = omega (arith, informed.worker_state.pool, informed.in_range.pool.0)
  at_point (Admit from to) Lost informed is within = tt
  at_point (ScanGate slot saw_worn) (SawGate gate) informed is within =
      claiming_within config.pool (record actor { point = ScanGate slot saw_worn }) informed.worker_state.pool (omega (arith, informed.worker_state.pool, informed.in_range.pool.0)) slot saw_worn gate (after_claim gate) within
  at_point (Claim slot saw_worn from to) Won informed is within = tt
  at_point (Claim slot saw_worn from to) Lost informed is within =
      next_gate_within config.pool (record actor { point = Claim slot saw_worn from to }) informed.worker_state.pool (omega (arith, informed.worker_state.pool, informed.in_range.pool.0)) slot saw_worn
  at_point (FillStatus own) Won informed is within = tt
  at_point (FillCount own) Won informed is within = tt
  at_point (FillAddr own entry) Won informed is within = tt
  at_point (FillExpected own entry) Won informed is within = tt
  at_point (FillNew own entry) Won informed is within = next_fill_within config.pool (record actor { point = FillNew own entry }) own entry
  at_point (Prepare own) (Filed went_well) informed is within = prepared_within config.pool own went_well
  at_point (ReadTargetStatus task) (SawStatus status) informed is within = status_within config.pool task status
  at_point (Inspect task entry) (SawWord word) informed is within =
      inspected_within config.pool (record actor { point = Inspect task entry }) next task entry word (informed.memory.claims.there task.own.slot informed.live.0.taken)
      (names config state informed.memory actor.tenant _ word (of_word word _ is))
  at_point (AnnounceRow task entry number) Won informed is within = tt
  at_point (Plant task entry number) Won informed is within = tt
  at_point (Plant task entry number) Lost informed is within = tt
  at_point (ReadOtherRow task entry attempt) (SawRow row) informed is within =
      subst (λ (one : Row). one.slot < config.pool) (of_row row (state.cells.rows attempt.worker) is) (informed.memory.claims.rows attempt.worker)
  at_point (ConfirmAttempt task entry attempt other) (SawWord word) informed is within = attempt_confirmed_within config.pool task entry attempt other word within
  at_point (ReadDirtyGate task entry slot value) (SawGate gate) informed is within = dirty_gate_within config.pool task entry slot value gate within
  at_point (ConfirmDirty task entry other value) (SawWord word) informed is within = dirty_confirmed_within config.pool task other value word within
  at_point (DecideYes task) Won informed is within = tt
  at_point (DecideYes task) Lost informed is within = tt
  at_point (DecideNo task entry value) Won informed is within = tt
  at_point (DecideNo task entry value) Lost informed is within = tt
  at_point (CheckThenResolve task entry attempt) (SawStatus status) informed is within = tt
  at_point (Resolve task entry attempt was_open) Won informed is within = tt
  at_point (Resolve task entry attempt was_open) Lost informed is within = tt
  at_point (ReadOtherGate task other) (SawGate gate) informed is within = other_gate_within config.pool task other gate within
  at_point (PinOther task other from to) Won informed is within = turns_within config.pool task other
  at_point (PinOther task other from to) Lost informed is within = tt
  at_point (ReadCount task) (SawNumber count) informed is within =
      either_way (IsWithin config.pool) (nat_le 1 count && nat_le count MAX_ENTRIES) (ReadAddr task count) (ReadCount task) (λ fit. tt) (λ stays. tt)
  at_point (ReadAddr task count) (SawNumber addr) informed is within = either_way (IsWithin config.pool) (nat_lt addr MAX_WORDS) (ReadExpected task count addr) (ReadAddr task count) (λ fit. tt) (λ stays. tt)
  at_point (ReadExpected task count addr) (SawNumber expected) informed is within =
      either_way (IsWithin config.pool) (nat_le expected MAX_VALUE) (ReadNew task count addr expected) (ReadExpected task count addr) (λ fit. tt) (λ stays. tt)
  at_point (ReadNew task count addr expected) (SawNumber new) informed is within =
      either_way (IsWithin config.pool) (nat_le new MAX_VALUE) (next_read (record actor { point = ReadNew task count addr expected }) task count) (ReadNew task count addr expected)
      (λ fit. next_read_within config.pool (record actor { point = ReadNew task count addr expected }) task count) (λ stays. tt)
  at_point (Seal task) (Filed went_well) informed is within = filed_within config.pool task went_well
  at_point (SweepWord task sweep entry) (SawWord word) informed is within = swept_within config.pool (record actor { point = SweepWord task sweep entry }) task sweep entry word
  at_point (Release task sweep entry) Won informed is within = next_sweep_within config.pool (record actor { point = Release task sweep entry }) task sweep entry
  at_point (Release task sweep entry) Lost informed is within = next_sweep_within config.pool (record actor { point = Release task sweep entry }) task sweep entry
  at_point (Clean task entry value) Won informed is within = next_sweep_within config.pool (record actor { point = Clean task entry value }) task SweepDoneYes entry
  at_point (Clean task entry value) Lost informed is within = next_sweep_within config.pool (record actor { point = Clean task entry value }) task SweepDoneYes entry
  at_point (SweepRow task sweep entry attempt) (SawRow row) informed is within = tt
  at_point (SweepConfirm task sweep entry attempt other) (SawWord word) informed is within =
      sweep_confirmed_within config.pool (record actor { point = SweepConfirm task sweep entry attempt other }) task sweep entry attempt other word
  at_point (SweepResolve task sweep entry attempt) Won informed is within = next_sweep_within config.pool (record actor { point = SweepResolve task sweep entry attempt }) task sweep entry
  at_point (SweepResolve task sweep entry attempt) Lost informed is within = next_sweep_within config.pool (record actor { point = SweepResolve task sweep entry attempt }) task sweep entry
  at_point (Settle task) (Filed went_well) informed is within = filed_within config.pool task went_well
  at_point (Cancel task) (Filed went_well) informed is within = tt
  at_point (Unpin slot onward) (SawGate gate) informed is within =
      either_way (IsWithin config.pool) (gate.pins == 1) (FreeSlot slot onward) (resumed onward) (λ last. tt) (λ more. resumed_within config.pool onward)
  at_point (FreeSlot slot onward) Won informed is within = tt
  at_point (LowerDoor onward) (SawDoor door) informed is within = resumed_within config.pool onward
  at_point (GiveUp own undecided) (SawStatus status) informed is within = tt
  at_point point observation informed is within = within

-- An informed request goes on to such a point.
pub goes_within : (config : Config) (state : State) (actor : ActorState) (next : ℕ) (observation : Observation) → IsInformed config state actor → IsTold state.cells (asks_at actor actor.point) observation
    → IsWithin config.pool actor.point → IsWithin config.pool (goes actor next actor.point observation)
goes_within config state actor next observation informed is within = at_point config state actor next actor.point observation informed is within
