-- Defines when a request is in range: each number that it keeps fits into the bits of its place.
-- Used by: mw_law_runs, mw_law_store, mw_engine, mw_simulator, actor.rt, actor/asks.rt. A new number needs a bound here.
use Rattle.std.specs.Prelude.{ℕ, ◌≡◌, true, ◌<◌, ◌≤◌, ◌^◌, List, length, All}
use Rattle.mw_words.specs.declared.limits.TheConstants.{MAX_ENTRIES, MAX_POOL, MAX_VALUE, MAX_WORDS, MAX_WORKERS, WORN_NUMBER}
use Rattle.mw_words.specs.declared.jobs.Entry.{Entry}
use Rattle.mw_words.specs.declared.jobs.Job.{Job}
use Rattle.mw_words.specs.declared.jobs.Job.TheVariants.{Get, Cas}
use Rattle.mw_words.specs.Change.{is_change}
use Rattle.mw_words.specs.Patterns.{IsDoorInRange, IsGateInRange}
use Rattle.mw_actor.specs.declared.points.Task.{Task}
use Rattle.mw_actor.specs.declared.points.Attempt.{Attempt}
use Rattle.mw_actor.specs.declared.points.After.{After}
use Rattle.mw_actor.specs.declared.points.After.TheVariants.{Work}
use Rattle.mw_actor.specs.declared.points.Point.{Point}
use Rattle.mw_actor.specs.declared.points.Point.TheVariants.{Admit, Claim, FillStatus, FillCount, FillAddr, FillExpected, FillNew, Prepare, ReadTargetStatus, Inspect, AnnounceRow, Plant, ReadOtherRow, ConfirmAttempt, ReadDirtyGate, ConfirmDirty, DecideYes, DecideNo, CheckThenResolve, Resolve, ReadOtherGate, PinOther, ReadCount, ReadAddr, ReadExpected, ReadNew, Seal, SweepWord, Release, Clean, SweepRow, SweepConfirm, SweepResolve, Settle, Cancel, Unpin, FreeSlot, LowerDoor}
use Rattle.mw_actor.specs.ActorState.{ActorState, own_entries}

-- The entry's address is one that a tenant may have, and its values are values of a word.
abbrev pub IsEntryInRange : Entry → Type 0
IsEntryInRange entry = (entry.addr < MAX_WORDS) × (entry.expected ≤ MAX_VALUE) × (entry.new ≤ MAX_VALUE)

-- There are at most as many entries as a change may have, and each is in range.
abbrev pub AreEntriesInRange : List Entry → Type 0
AreEntriesInRange entries = (length entries ≤ MAX_ENTRIES) × All IsEntryInRange entries

-- A job is a read, or a well-formed change of a tenant with the most words.
abbrev pub IsFormed : Job → Type 0
IsFormed (Get address) = Unit {0}
IsFormed (Cas entries) = is_change MAX_WORDS entries.items ≡ true

-- the sequence numbers of both changes are below WORN_NUMBER
abbrev pub IsTaskInRange : Task → Type 0
IsTaskInRange task = (task.own.seq < WORN_NUMBER) × (task.target.seq < WORN_NUMBER)

-- the attempt fits into a word
abbrev pub IsAttemptInRange : Attempt → Type 0
IsAttemptInRange attempt = (attempt.worker < MAX_WORKERS) × (attempt.number ≤ WORN_NUMBER)

-- what follows is in range
abbrev pub IsAfterInRange : After → Type 0
IsAfterInRange (Work task) = IsTaskInRange task
IsAfterInRange after = Unit {0}

-- another entry must be read: these are fewer than the count, which is at most MAX_ENTRIES
abbrev pub IsReading : List Entry → ℕ → Type 0
IsReading others count = (length others < count) × (count ≤ MAX_ENTRIES)

-- the numbers kept at a point are in range, given the entries of another's change that were read
abbrev pub IsPointInRange : List Entry → Point → Type 0
IsPointInRange others (Admit from to) = IsDoorInRange from × IsDoorInRange to
IsPointInRange others (Claim slot saw_worn from to) = (from.seq < WORN_NUMBER) × IsGateInRange from × IsGateInRange to
IsPointInRange others (FillStatus own) = own.seq < WORN_NUMBER
IsPointInRange others (FillCount own) = own.seq < WORN_NUMBER
IsPointInRange others (FillAddr own entry) = own.seq < WORN_NUMBER
IsPointInRange others (FillExpected own entry) = own.seq < WORN_NUMBER
IsPointInRange others (FillNew own entry) = own.seq < WORN_NUMBER
IsPointInRange others (Prepare own) = own.seq < WORN_NUMBER
IsPointInRange others (ReadTargetStatus task) = IsTaskInRange task
IsPointInRange others (Inspect task entry) = IsTaskInRange task × (entry < MAX_ENTRIES)
IsPointInRange others (AnnounceRow task entry number) = IsTaskInRange task × (entry < MAX_ENTRIES) × (number < WORN_NUMBER)
IsPointInRange others (Plant task entry number) = IsTaskInRange task × (number < WORN_NUMBER)
IsPointInRange others (ReadOtherRow task entry attempt) = IsTaskInRange task × IsAttemptInRange attempt
IsPointInRange others (ConfirmAttempt task entry attempt other) = IsTaskInRange task × IsAttemptInRange attempt
IsPointInRange others (ReadDirtyGate task entry slot value) = IsTaskInRange task
IsPointInRange others (ConfirmDirty task entry other value) = IsTaskInRange task
IsPointInRange others (DecideYes task) = IsTaskInRange task
IsPointInRange others (DecideNo task entry value) = IsTaskInRange task × (entry < MAX_ENTRIES) × (value ≤ MAX_VALUE)
IsPointInRange others (CheckThenResolve task entry attempt) = IsTaskInRange task × IsAttemptInRange attempt
IsPointInRange others (Resolve task entry attempt was_open) = IsTaskInRange task × IsAttemptInRange attempt
IsPointInRange others (ReadOtherGate task other) = IsTaskInRange task
IsPointInRange others (PinOther task other from to) = IsTaskInRange task × (other.seq < WORN_NUMBER) × IsGateInRange from × IsGateInRange to
IsPointInRange others (ReadCount task) = IsTaskInRange task
IsPointInRange others (ReadAddr task count) = IsTaskInRange task × IsReading others count
IsPointInRange others (ReadExpected task count addr) = IsTaskInRange task × IsReading others count × (addr < MAX_WORDS)
IsPointInRange others (ReadNew task count addr expected) = IsTaskInRange task × IsReading others count × (addr < MAX_WORDS) × (expected ≤ MAX_VALUE)
IsPointInRange others (Seal task) = IsTaskInRange task
IsPointInRange others (SweepWord task sweep entry) = IsTaskInRange task
IsPointInRange others (Release task sweep entry) = IsTaskInRange task
IsPointInRange others (Clean task entry value) = IsTaskInRange task × (value ≤ MAX_VALUE)
IsPointInRange others (SweepRow task sweep entry attempt) = IsTaskInRange task × IsAttemptInRange attempt
IsPointInRange others (SweepConfirm task sweep entry attempt other) = IsTaskInRange task × IsAttemptInRange attempt
IsPointInRange others (SweepResolve task sweep entry attempt) = IsTaskInRange task × IsAttemptInRange attempt
IsPointInRange others (Settle task) = IsTaskInRange task
IsPointInRange others (Cancel task) = IsTaskInRange task
IsPointInRange others (Unpin slot after) = (slot.seq < WORN_NUMBER) × IsAfterInRange after
IsPointInRange others (FreeSlot slot after) = (slot.seq < WORN_NUMBER) × IsAfterInRange after
IsPointInRange others (LowerDoor after) = IsAfterInRange after
IsPointInRange others point = Unit {0}

-- A request is in range: its worker, quota and pool are within a server's limits, and its own entries, the entries
-- that it read, and its point are in range. Its own entries are a well-formed change.
pub record IsInRange (actor : ActorState) : Type 0 where
  pub worker : actor.worker < MAX_WORKERS
  pub quota : actor.quota < 2 ^ 8
  pub pool : (1 ≤ actor.pool) × (actor.pool ≤ MAX_POOL)
  pub formed : IsFormed actor.job
  pub job : AreEntriesInRange (own_entries actor)
  pub others : AreEntriesInRange actor.others
  pub point : IsPointInRange actor.others actor.point
