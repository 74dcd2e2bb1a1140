-- Lists what a request knows at each point of its program, as far as the invariant of the shared words needs it.
-- Used by: mw_law_store. A new point (points.rt of mw_look and mw_actor) needs a case here: else it is in the last
-- case, and nothing is known there.
use Rattle.std.specs.Prelude.{ℕ, ◌≡◌, ◌≢◌, ◌≤◌, false, length}
use Rattle.mw_words.specs.declared.statuses.Status.TheVariants.{Draft}
use Rattle.mw_look.specs.declared.points.Point.{Point as ReadPoint}
use Rattle.mw_look.specs.declared.points.Point.TheVariants.{ReadRow, ConfirmWord as ConfirmTrail, ReadGate, Pin as PinOfRead, ReadStatus, FindEntry, ReadExpected as ReadExpectedOfRead, ReadNew as ReadNewOfRead, RecheckWord, Unpin as UnpinOfRead, FreeSlot as FreeOfRead}
use Rattle.mw_look.specs.declared.points.Trail.{Trail}
use Rattle.mw_look.specs.declared.points.Trail.TheVariants.{Held as ByHeld, Planted as ByPlanted}
use Rattle.mw_actor.specs.declared.points.Point.{Point}
use Rattle.mw_actor.specs.declared.points.Point.TheVariants.{Read, ReadDoor, FillStatus, FillCount, FillAddr, FillExpected, FillNew, Prepare, ReadTargetStatus, Inspect, AnnounceRow, Plant, ReadOtherRow, ConfirmAttempt, ReadDirtyGate, ConfirmDirty, DecideYes, DecideNo, CheckThenResolve, Resolve, ReadOtherGate, PinOther, ReadCount, ReadAddr, ReadExpected, ReadNew, Seal, SweepWord, Release, Clean, SweepRow, SweepConfirm, SweepResolve, Settle, Cancel, Unpin, FreeSlot, LowerDoor, GiveUp}
use Rattle.mw_actor.specs.declared.points.Sweep.TheVariants.{Yes as SweepYes, No as SweepNo, DoneYes as SweepDoneYes}
use Rattle.mw_actor.specs.ActorState.{ActorState, own_entries, entries_of, entry_at, entry_of, is_alone}
use Rattle.mw_actor.specs.Asks.{row_of}
use Rattle.mw_world.specs.Claim.Invariant.{IsMade}
use Rattle.mw_world.specs.Definition.State.{State}
use Rattle.mw_law_runs.specs.Knowledge.Facts.{IsKnown, MayBeMet, IsOwn, IsDrafted, IsWritten, IsWriting, IsAtWork, WorksOn, AtEntry, HasRead, next_of_others, HoldsUpTo, Sweeps, IsDecidedAs, IsSweptUpTo, Releases, LooksInto, IsGiven, IsAnothers, IsForChangeAt, HasRow, IsNext, CameBy, Follows, EndsWith}

-- what a read knows before it confirms its word: the row of the attempt's worker; a read that found a held word never comes to this point
abbrev pub Confirms : State → ℕ → ℕ → Trail → Type 0
Confirms state tenant address (ByHeld slot seq) = ⊥
Confirms state tenant address (ByPlanted worker number row) = HasRow state tenant address worker number row

-- what a read knows at each of its points
abbrev pub ReadKnows : State → ℕ → ℕ → ReadPoint → Type 0
ReadKnows state tenant address (ReadRow worker number) = IsGiven state (record { worker = worker; number = number })
ReadKnows state tenant address (ConfirmTrail trail) = Confirms state tenant address trail
ReadKnows state tenant address (ReadGate trail) = CameBy state tenant address trail
ReadKnows state tenant address (PinOfRead trail from to) = CameBy state tenant address trail
ReadKnows state tenant address (ReadStatus trail) = CameBy state tenant address trail
ReadKnows state tenant address (FindEntry trail status entry) = CameBy state tenant address trail
ReadKnows state tenant address (ReadExpectedOfRead trail status entry) = CameBy state tenant address trail
ReadKnows state tenant address (ReadNewOfRead trail status entry expected) = CameBy state tenant address trail
ReadKnows state tenant address (RecheckWord trail status expected new) = CameBy state tenant address trail
ReadKnows state tenant address (UnpinOfRead slot seq after) = IsKnown state tenant (record { slot = slot; seq = seq })
ReadKnows state tenant address (FreeOfRead slot seq after) = IsKnown state tenant (record { slot = slot; seq = seq })
ReadKnows state tenant address point = Unit {0}

-- What a request knows at each of its points. Where this says nothing, the invariant of the shared words needs nothing. Exchanges of doors and gates
-- have their own conditions (`IsReady`). This says nothing of values that were read for a reply.
abbrev pub KnowsAt : State → ActorState → Point → Type 0
KnowsAt state actor (Read look) = ReadKnows state look.tenant look.address look.point
-- the request writes its change into its slot
KnowsAt state actor (FillStatus own) = IsDrafted state actor own
KnowsAt state actor (FillCount own) = IsDrafted state actor own × (state.cells.statuses own.slot ≡ Draft)
KnowsAt state actor (FillAddr own entry) = IsWriting state actor own entry
KnowsAt state actor (FillExpected own entry) = IsWriting state actor own entry × (state.cells.addrs own.slot entry ≡ (entry_at (own_entries actor) entry).addr)
KnowsAt state actor (FillNew own entry) =
    IsWriting state actor own entry × (state.cells.addrs own.slot entry ≡ (entry_at (own_entries actor) entry).addr)
    × (state.cells.expecteds own.slot entry ≡ (entry_at (own_entries actor) entry).expected)
KnowsAt state actor (Prepare own) = IsWritten state actor own (length (own_entries actor))
-- it looks at the words of an open change, and holds them one by one
KnowsAt state actor (ReadTargetStatus task) = WorksOn state actor task
KnowsAt state actor (Inspect task entry) = AtEntry state actor task entry × HoldsUpTo state task.target entry
KnowsAt state actor (AnnounceRow task entry number) = AtEntry state actor task entry × IsNext state actor number
KnowsAt state actor (Plant task entry number) = AtEntry state actor task entry × IsNext state actor number × (state.cells.rows actor.worker ≡ row_of task.target entry)
KnowsAt state actor (ReadOtherRow task entry attempt) = AtEntry state actor task entry × IsAnothers state actor attempt
KnowsAt state actor (ConfirmAttempt task entry attempt other) =
    AtEntry state actor task entry × IsAnothers state actor attempt × IsForChangeAt state actor task entry attempt other
KnowsAt state actor (ReadDirtyGate task entry slot value) = AtEntry state actor task entry
KnowsAt state actor (ConfirmDirty task entry other value) = AtEntry state actor task entry × (other.seq ≤ (state.cells.gates other.slot).seq)
KnowsAt state actor (DecideYes task) = WorksOn state actor task × HoldsUpTo state task.target (length (entries_of actor task))
KnowsAt state actor (DecideNo task entry value) = AtEntry state actor task entry × (value ≢ (entry_of actor task entry).expected)
KnowsAt state actor (CheckThenResolve task entry attempt) = AtEntry state actor task entry × IsForChangeAt state actor task entry attempt task.target
KnowsAt state actor (Resolve task entry attempt was_open) = AtEntry state actor task entry × IsForChangeAt state actor task entry attempt task.target
-- another's change is in the way: it pins it and reads it
KnowsAt state actor (ReadOtherGate task other) = WorksOn state actor task × MayBeMet state actor.tenant other
KnowsAt state actor (PinOther task other from to) = WorksOn state actor task × MayBeMet state actor.tenant other
KnowsAt state actor (ReadCount task) = IsAtWork state actor task × (is_alone task ≡ false)
KnowsAt state actor (ReadAddr task count) = HasRead state actor task count
KnowsAt state actor (ReadExpected task count addr) = HasRead state actor task count × (addr ≡ (next_of_others state actor task).addr)
KnowsAt state actor (ReadNew task count addr expected) =
    HasRead state actor task count × (addr ≡ (next_of_others state actor task).addr) × (expected ≡ (next_of_others state actor task).expected)
-- it releases the words of a decided change
KnowsAt state actor (Seal task) = WorksOn state actor task × IsMade (state.history.fate task.target.slot task.target.seq)
KnowsAt state actor (SweepWord task sweep entry) = Sweeps state actor task sweep entry
KnowsAt state actor (Release task sweep entry) = Sweeps state actor task sweep entry × Releases sweep
KnowsAt state actor (Clean task entry value) =
    Sweeps state actor task SweepDoneYes entry × (value ≡ (entry_of actor task entry).new)
KnowsAt state actor (SweepRow task sweep entry attempt) = Sweeps state actor task sweep entry × LooksInto sweep × IsGiven state attempt
KnowsAt state actor (SweepConfirm task sweep entry attempt other) =
    Sweeps state actor task sweep entry × LooksInto sweep × IsForChangeAt state actor task entry attempt other
KnowsAt state actor (SweepResolve task sweep entry attempt) =
    Sweeps state actor task sweep entry × LooksInto sweep × IsForChangeAt state actor task entry attempt task.target
KnowsAt state actor (Settle task) =
    WorksOn state actor task × IsDecidedAs (state.history.fate task.target.slot task.target.seq) SweepYes
    × IsSweptUpTo state task.target SweepYes (length (entries_of actor task))
KnowsAt state actor (Cancel task) = WorksOn state actor task × IsDecidedAs (state.history.fate task.target.slot task.target.seq) SweepNo
-- it gives a slot back, or gives up
KnowsAt state actor (Unpin slot onward) = IsKnown state actor.tenant slot × Follows state actor onward × EndsWith state actor slot onward
KnowsAt state actor (FreeSlot slot onward) = IsKnown state actor.tenant slot × Follows state actor onward
KnowsAt state actor (LowerDoor onward) = Follows state actor onward
KnowsAt state actor (GiveUp own undecided) = IsOwn state actor own × (state.history.fate own.slot own.seq ≡ Draft → state.cells.statuses own.slot ≡ Draft)
KnowsAt state actor point = Unit {0}

-- The request with its point set to the first one of a change. What a request knows depends on its worker, its tenant, its job and what it has read,
-- but not on this field.
abbrev pub without_point : ActorState → ActorState
without_point actor = record actor { point = ReadDoor }

-- What a request knows at a point.
abbrev pub Knows : State → ActorState → Point → Type 0
Knows state actor point = KnowsAt state (without_point actor) point
