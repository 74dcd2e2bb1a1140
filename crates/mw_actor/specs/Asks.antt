-- Defines the step for which a request asks at each point of its program.
-- Used by: many crates from mw_world on, actor.rt, actor/asks.rt. A new point needs a case here and in Program.
use Rattle.std.specs.Prelude.{ℕ, Bool, true, false, length}
use Rattle.mw_words.specs.declared.places.At.{At}
use Rattle.mw_words.specs.declared.places.At.TheVariants.{Door as AtDoor, Gate as AtGate, Row as AtRow, Data, Status as AtStatus, Count, Addr, Expected, New}
use Rattle.mw_words.specs.declared.rows.Row.{Row}
use Rattle.mw_words.specs.declared.words.Word.{Word}
use Rattle.mw_words.specs.declared.words.Word.TheVariants.{Plain, Planted, Dirty}
use Rattle.mw_words.specs.declared.statuses.Status.TheVariants.{Draft, Open, YesDirty, No}
use Rattle.mw_words.specs.declared.jobs.Entry.{Entry}
use Rattle.mw_look.specs.declared.steps.Kind.TheVariants.{Admit as AdmitKind, Claim as ClaimKind, Fill as FillKind, Pin as PinKind, Unpin as UnpinKind, Free as FreeKind, Drop as DropKind, Row as RowKind, Plant as PlantKind, Resolve as ResolveKind, DecideYes as DecideYesKind, DecideNo as DecideNoKind, Release as ReleaseKind, Clean as CleanKind}
use Rattle.mw_look.specs.declared.steps.Call.TheVariants.{Prepare as PrepareCall, Seal as SealCall, Settle as SettleCall, Cancel as CancelCall}
use Rattle.mw_look.specs.Steps.{Step, Load, Change, File, fetch, store}
use Rattle.mw_look.specs.Program.{freed, asks as read_asks}
use Rattle.mw_actor.specs.declared.points.Slot.{Slot}
use Rattle.mw_actor.specs.declared.points.Task.{Task}
use Rattle.mw_actor.specs.declared.points.Sweep.{Sweep}
use Rattle.mw_actor.specs.declared.points.Sweep.TheVariants.{Yes as SweepYes}
use Rattle.mw_actor.specs.declared.points.Point.{Point}
use Rattle.mw_actor.specs.declared.points.Point.TheVariants.{Read, ReadDoor, Admit, ScanGate, Claim, FillStatus, FillCount, FillAddr, FillExpected, FillNew, Prepare, ReadTargetStatus, Inspect, AnnounceRow, Plant, ReadOtherRow, ConfirmAttempt, ReadDirtyGate, ConfirmDirty, DecideYes, DecideNo, CheckThenResolve, Resolve, ReadOtherGate, PinOther, ReadCount, ReadAddr, ReadExpected, ReadNew, Seal, SweepWord, Release, Clean, SweepRow, SweepConfirm, SweepResolve, Settle, Cancel, Unpin, FreeSlot, LowerDoor, GiveUp, Replied}
use Rattle.mw_actor.specs.ActorState.{ActorState, own_entries, entry_at, entry_of, planted, held}

-- the word for which an attempt is exchanged: the held word if the change is open, else the expected value
abbrev pub resolved : Bool → Slot → Entry → Word
resolved true target entry = held target
resolved false target entry = Plain entry.expected

-- The word for which a held word is exchanged: if the change is made, the new value, which still names the slot; else
-- the expected value.
abbrev pub released : Sweep → Slot → Entry → Word
released SweepYes target entry = Dirty target.slot entry.new
released sweep target entry = Plain entry.expected

-- the place of the word of a target's entry
abbrev pub word_place : ActorState → Task → ℕ → At
word_place actor task entry = Data actor.tenant (entry_of actor task entry).addr

-- the row that names an entry of a change
abbrev pub row_of : Slot → ℕ → Row
row_of target entry = record { slot = target.slot; entry = entry; seq = target.seq }

-- The step for which a request asks at each point.
abbrev pub asks_at : ActorState → Point → Step
-- the request is a read
asks_at actor (Read look) = read_asks look
-- a change finds a slot and is written into it
asks_at actor ReadDoor = Load (AtDoor actor.tenant)
asks_at actor (Admit from to) = Change AdmitKind (AtDoor actor.tenant) from to
asks_at actor (ScanGate slot saw_worn) = Load (AtGate slot)
asks_at actor (Claim slot saw_worn from to) = Change ClaimKind (AtGate slot) from to
asks_at actor (FillStatus own) = store FillKind (AtStatus own.slot) Draft
asks_at actor (FillCount own) = store FillKind (Count own.slot) (length (own_entries actor))
asks_at actor (FillAddr own entry) = store FillKind (Addr own.slot entry) (entry_at (own_entries actor) entry).addr
asks_at actor (FillExpected own entry) = store FillKind (Expected own.slot entry) (entry_at (own_entries actor) entry).expected
asks_at actor (FillNew own entry) = store FillKind (New own.slot entry) (entry_at (own_entries actor) entry).new
asks_at actor (Prepare own) = File PrepareCall own.slot
-- the request looks at the words of an open change, and holds them one by one
asks_at actor (ReadTargetStatus task) = Load (AtStatus task.target.slot)
asks_at actor (Inspect task entry) = Load (word_place actor task entry)
asks_at actor (AnnounceRow task entry number) = store RowKind (AtRow actor.worker) (row_of task.target entry)
asks_at actor (Plant task entry number) = Change PlantKind (word_place actor task entry) (Plain (entry_of actor task entry).expected) (Planted actor.worker number)
asks_at actor (ReadOtherRow task entry attempt) = Load (AtRow attempt.worker)
asks_at actor (ConfirmAttempt task entry attempt other) = Load (word_place actor task entry)
asks_at actor (ReadDirtyGate task entry slot value) = Load (AtGate slot)
asks_at actor (ConfirmDirty task entry other value) = Load (word_place actor task entry)
asks_at actor (DecideYes task) = Change DecideYesKind (AtStatus task.target.slot) Open YesDirty
asks_at actor (DecideNo task entry value) = Change DecideNoKind (AtStatus task.target.slot) Open (No entry value)
asks_at actor (CheckThenResolve task entry attempt) = Load (AtStatus task.target.slot)
asks_at actor (Resolve task entry attempt was_open) = Change ResolveKind (word_place actor task entry) (planted attempt) (resolved was_open task.target (entry_of actor task entry))
-- the request pins another's change and reads it
asks_at actor (ReadOtherGate task other) = Load (AtGate other.slot)
asks_at actor (PinOther task other from to) = Change PinKind (AtGate other.slot) from to
asks_at actor (ReadCount task) = Load (Count task.target.slot)
asks_at actor (ReadAddr task count) = Load (Addr task.target.slot (length actor.others))
asks_at actor (ReadExpected task count addr) = Load (Expected task.target.slot (length actor.others))
asks_at actor (ReadNew task count addr expected) = Load (New task.target.slot (length actor.others))
-- the request sweeps the words of a decided change
asks_at actor (Seal task) = File SealCall task.target.slot
asks_at actor (SweepWord task sweep entry) = Load (word_place actor task entry)
asks_at actor (Release task sweep entry) = Change ReleaseKind (word_place actor task entry) (held task.target) (released sweep task.target (entry_of actor task entry))
asks_at actor (Clean task entry value) = Change CleanKind (word_place actor task entry) (Dirty task.target.slot value) (Plain value)
asks_at actor (SweepRow task sweep entry attempt) = Load (AtRow attempt.worker)
asks_at actor (SweepConfirm task sweep entry attempt other) = Load (word_place actor task entry)
asks_at actor (SweepResolve task sweep entry attempt) = Change ResolveKind (word_place actor task entry) (planted attempt) (Plain (entry_of actor task entry).expected)
asks_at actor (Settle task) = File SettleCall task.target.slot
asks_at actor (Cancel task) = File CancelCall task.target.slot
-- the request gives back a slot and ends
asks_at actor (Unpin slot after) = fetch UnpinKind (AtGate slot.slot)
asks_at actor (FreeSlot slot after) = store FreeKind (AtGate slot.slot) (freed slot.seq)
asks_at actor (LowerDoor after) = fetch DropKind (AtDoor actor.tenant)
asks_at actor (GiveUp own undecided) = Load (AtStatus own.slot)
asks_at actor (Replied reply) = Load (AtDoor actor.tenant)

-- the step for which a request asks
abbrev pub asks : ActorState → Step
asks actor = asks_at actor actor.point
