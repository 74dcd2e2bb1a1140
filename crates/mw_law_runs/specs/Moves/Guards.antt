-- Defines the precondition of each move (elementary change by a worker's step): what the shared words and the history must be
-- then, and that what it writes is in range.
-- Used by: mw_law_store.
use Rattle.std.specs.Prelude.{ℕ, ◌≡◌, ◌≢◌, ◌<◌, ◌≤◌, ◌+◌, ◌^◌, true, false, List, [], ◌∷◌, length}
use Rattle.mw_words.specs.declared.limits.TheConstants.{MAX_VALUE}
use Rattle.mw_words.specs.declared.jobs.Entry.{Entry}
use Rattle.mw_words.specs.declared.doors.Door.{Door}
use Rattle.mw_words.specs.declared.gates.Gate.{Gate}
use Rattle.mw_words.specs.declared.rows.Row.{Row}
use Rattle.mw_words.specs.declared.statuses.Status.TheVariants.{Draft, Open, YesDirty, Yes, No, DoneYes}
use Rattle.mw_words.specs.declared.words.Word.TheVariants.{Plain, Planted, Held, Dirty}
use Rattle.mw_words.specs.Change.{is_change}
use Rattle.mw_words.specs.Patterns.{IsDoorInRange, IsGateInRange, IsRowInRange, IsStatusInRange, IsWordInRange}
use Rattle.mw_pool.specs.Moves.{Pins, Frees}
use Rattle.mw_actor.specs.declared.points.Slot.{Slot}
use Rattle.mw_actor.specs.ActorState.{entry_at}
use Rattle.mw_world.specs.declared.config.Config.{Config}
use Rattle.mw_world.specs.declared.step_labels.Phase.TheVariants.{Acquired}
use Rattle.mw_world.specs.Definition.History.{StandingAttempt, AttemptIn, NoAttempt, HoldPermission, Permitted, has, expected, new}
use Rattle.mw_world.specs.Claim.Invariant.{IsPinnedAs, HasWord, IsEntryOf, IsRefused}
use Rattle.mw_world.specs.Claim.Obligations.{IsEntryAt}
use Rattle.mw_world.specs.Definition.State.{State, tenant_at, tenants_of}
use Rattle.mw_law_runs.specs.Moves.Moves.{Move, SetDoor, FillStatus, FillCount, FillAddr, FillExpected, FillNew, SetRow, Claim, Pin, Unpin, Free, Prepare, SayYes, SayNo, Seal, Settle, Cancel, Plant, SkipNumber, TakeBack, Hold, WriteNew, LetGo, Clean, LeavePin, DecideFault, SetIntent, made}

-- The slot is taken for this change.
pub record IsLive (state : State) (target : Slot) : Type 0 where
  pub taken : (state.cells.gates target.slot).taken ≡ true
  pub seq : (state.cells.gates target.slot).seq ≡ target.seq

-- The door may become any other in range, but a door that has the fault keeps it. This doesn't look at how many slots it counts.
pub record MaySetDoor (state : State) (tenant : ℕ) (door : Door) : Type 0 where
  pub fits : IsDoorInRange door
  pub fault : (state.cells.doors tenant).fault ≡ true → door.fault ≡ true

-- If the slot is taken, its change is a draft, and this worker claimed the slot.
pub record IsDraftOf (state : State) (by slot : ℕ) : Type 0 where
  pub draft : (state.cells.gates slot).taken ≡ true → state.history.fate slot (state.cells.gates slot).seq ≡ Draft
  pub own : (state.cells.gates slot).taken ≡ true → state.history.owner slot (state.cells.gates slot).seq ≡ by

-- The worker may fill the slot, and the number fits a shared word.
pub record MayFill (state : State) (by slot number : ℕ) : Type 0 where
  pub draft : IsDraftOf state by slot
  pub fits : number < 2 ^ 64

-- The worker's row may name another entry, of a slot of the pool, while the worker has no standing attempt.
pub record MaySetRow (config : Config) (state : State) (by : ℕ) (row : Row) : Type 0 where
  pub fits : IsRowInRange row
  pub there : row.slot < config.pool
  pub rests : state.history.standing by ≡ NoAttempt

-- A slot of the pool that isn't taken may be claimed for a well-formed change of a tenant. It gets a pin and keeps its number.
pub record MayClaim (config : Config) (state : State) (own : Slot) (gate : Gate) (tenant : ℕ) (entries : List Entry) : Type 0 where
  pub was_free : (state.cells.gates own.slot).taken ≡ false
  pub had_number : (state.cells.gates own.slot).seq ≡ own.seq
  pub is_taken : gate.taken ≡ true
  pub has_number : gate.seq ≡ own.seq
  pub has_pin : 1 ≤ gate.pins
  pub fits : IsGateInRange gate
  pub there : own.slot < config.pool
  pub tenant_there : tenant < tenants_of config
  pub formed : is_change (tenant_at config tenant).words entries ≡ true

-- A taken slot that has a pin may get one more.
pub record MayPin (state : State) (slot : ℕ) (gate : Gate) : Type 0 where
  pub pins : Pins (state.cells.gates slot).seq (state.cells.gates slot) gate
  pub fits : IsGateInRange gate

-- No word refers to the slot: no word is held for it or was written by it, and no attempt is in a word whose worker's row names it.
pub record NoWordRefers (state : State) (slot : ℕ) : Type 0 where
  pub held : (tenant address seq : ℕ) → state.cells.words tenant address ≢ Held slot seq
  pub dirty : (tenant address value : ℕ) → state.cells.words tenant address ≢ Dirty slot value
  pub planted : (tenant address worker attempt : ℕ) → state.cells.words tenant address ≡ Planted worker attempt → (state.cells.rows worker).slot ≢ slot

-- A pin may be taken back; the last one only when no word refers to the slot.
pub record MayUnpin (state : State) (slot : ℕ) : Type 0 where
  pub taken : (state.cells.gates slot).taken ≡ true
  pub pinned : 1 ≤ (state.cells.gates slot).pins
  pub last : (state.cells.gates slot).pins ≡ 1 → NoWordRefers state slot

-- A taken slot that has no pin may be freed.
pub record MayFree (state : State) (slot : ℕ) (gate : Gate) : Type 0 where
  pub frees : Frees (state.cells.gates slot) gate
  pub fits : IsGateInRange gate

-- A draft may be opened by the worker that claimed its slot, when the slot has all its entries.
pub record MayPrepare (state : State) (by : ℕ) (target : Slot) : Type 0 where
  pub live : IsLive state target
  pub draft : state.history.fate target.slot target.seq ≡ Draft
  pub own : state.history.owner target.slot target.seq ≡ by
  pub count : state.cells.counts target.slot ≡ length (state.history.change target.slot target.seq)
  pub entries : (index : ℕ) → index < length (state.history.change target.slot target.seq)
      → IsEntryOf state.cells target.slot index (entry_at (state.history.change target.slot target.seq) index)

-- An open change may be decided to be made when it holds each of its words.
pub record MaySayYes (state : State) (target : Slot) : Type 0 where
  pub live : IsLive state target
  pub is_open : state.history.fate target.slot target.seq ≡ Open
  pub keeps : (address : ℕ) → has state.history target.slot target.seq address ≡ true → state.history.phase target.slot target.seq address ≡ Acquired

-- An open change may be decided not to be made.
pub record MaySayNo (state : State) (target : Slot) (entry value : ℕ) : Type 0 where
  pub live : IsLive state target
  pub is_open : state.history.fate target.slot target.seq ≡ Open
  pub fits : IsStatusInRange (No entry value)

-- A change that was decided to be made may be made.
pub record MaySeal (state : State) (target : Slot) : Type 0 where
  pub live : IsLive state target
  pub decided : state.history.fate target.slot target.seq ≡ YesDirty

-- A made change may be done with when it holds no word.
pub record MaySettle (state : State) (target : Slot) : Type 0 where
  pub live : IsLive state target
  pub is_made : state.history.fate target.slot target.seq ≡ Yes
  pub let_go : (address : ℕ) → state.history.phase target.slot target.seq address ≢ Acquired

-- A refused change may be done with.
pub record MayCancel (state : State) (target : Slot) (entry value : ℕ) : Type 0 where
  pub live : IsLive state target
  pub refused : state.history.fate target.slot target.seq ≡ No entry value

-- A worker without a standing attempt may plant its next one in a plain word. The word has the expected value of the entry that the worker's row names,
-- and the entry is for this word. The change is one of this tenant and no draft, and its slot is pinned under its number. Its status doesn't matter
-- beyond that.
pub record MayPlant (state : State) (by tenant address number : ℕ) (row : Row) : Type 0 where
  pub word : state.cells.words tenant address ≡ Plain (expected state.history row.slot row.seq address)
  pub change : HasWord state.history tenant address row.slot row.seq
  pub entry : IsEntryAt (state.history.change row.slot row.seq) row.entry address
  pub pinned : IsPinnedAs row.seq (state.cells.gates row.slot)
  pub rests : state.history.standing by ≡ NoAttempt
  pub next : number ≡ (state.worker_states by).attempt
  pub fits : IsWordInRange (Planted by number)

-- An attempt in a word may be taken back: the word gets the expected value of the entry that the row of the attempt's worker names.
pub record MayTakeBack (state : State) (tenant address worker number value : ℕ) (row : Row) : Type 0 where
  pub word : state.cells.words tenant address ≡ Planted worker number
  pub old_value : value ≡ expected state.history row.slot row.seq address
  pub fits : value ≤ MAX_VALUE

-- A worker with the permission to hold the word for a change by this attempt may do so while the attempt is in the word.
pub record MayHold (state : State) (by tenant address worker number : ℕ) (target : Slot) : Type 0 where
  pub permission : state.history.permission by ≡ Permitted tenant address worker number target.slot target.seq
  pub word : state.cells.words tenant address ≡ Planted worker number
  pub fits : IsWordInRange (Held target.slot target.seq)

-- A word that is held for a made change may get the value that the change writes.
pub record MayWriteNew (state : State) (tenant address : ℕ) (target : Slot) (value : ℕ) : Type 0 where
  pub word : state.cells.words tenant address ≡ Held target.slot target.seq
  pub is_made : state.history.fate target.slot target.seq ≡ Yes
  pub new_value : value ≡ new state.history target.slot target.seq address
  pub fits : IsWordInRange (Dirty target.slot value)

-- A word that is held for a refused change may get the value back that the change expects.
pub record MayLetGo (state : State) (tenant address : ℕ) (target : Slot) (value : ℕ) : Type 0 where
  pub word : state.cells.words tenant address ≡ Held target.slot target.seq
  pub refused : IsRefused (state.history.fate target.slot target.seq)
  pub old_value : value ≡ expected state.history target.slot target.seq address
  pub fits : value ≤ MAX_VALUE

-- A word that a change has written may be cleaned when the change is done with as made.
pub record MayClean (state : State) (tenant address : ℕ) (target : Slot) (value : ℕ) : Type 0 where
  pub word : state.cells.words tenant address ≡ Dirty target.slot value
  pub seq : (state.cells.gates target.slot).seq ≡ target.seq
  pub done : state.history.fate target.slot target.seq ≡ DoneYes

-- A worker may get the permission to hold a word for an open change with an entry for it. It gets it for an attempt whose number was given out. If
-- that attempt is in the word, its worker's row names the change.
pub record MayPermit (state : State) (tenant address worker number : ℕ) (target : Slot) : Type 0 where
  pub change : HasWord state.history tenant address target.slot target.seq
  pub is_open : state.history.fate target.slot target.seq ≡ Open
  pub was_given : number < (state.worker_states worker).attempt
  pub row_slot : state.cells.words tenant address ≡ Planted worker number → (state.cells.rows worker).slot ≡ target.slot
  pub row_seq : state.cells.words tenant address ≡ Planted worker number → (state.cells.rows worker).seq ≡ target.seq

-- A worker keeps its standing attempt while that is in its word. A new standing attempt has a number that was given out, and is not for a draft. A
-- new permission is one that `MayPermit` allows.
pub record MaySetIntent (state : State) (by : ℕ) (standing : StandingAttempt) (permission : HoldPermission) : Type 0 where
  pub still : (tenant address number : ℕ) → state.history.standing by ≡ AttemptIn tenant address number
      → state.cells.words tenant address ≡ Planted by number → standing ≡ AttemptIn tenant address number
  pub was_given : (tenant address number : ℕ) → standing ≡ AttemptIn tenant address number → number < (state.worker_states by).attempt
  pub ready : (tenant address number : ℕ) → standing ≡ AttemptIn tenant address number
      → state.history.fate (state.cells.rows by).slot (state.cells.rows by).seq ≢ Draft
  pub permissions : (tenant address other number slot seq : ℕ) → permission ≡ Permitted tenant address other number slot seq
      → MayPermit state tenant address other number (record { slot = slot; seq = seq })

-- The precondition of a move of a worker. A number may be skipped if the number of the worker's next attempt doesn't fall by it. A pin may be left
-- behind by the worker that claimed its slot. The reply FAULT may always be decided, because the invariant of the shared words doesn't speak of it.
abbrev pub Guard : Config → State → ℕ → Move → Type 0
Guard config state by (SetDoor tenant door) = MaySetDoor state tenant door
Guard config state by (FillStatus slot) = IsDraftOf state by slot
Guard config state by (FillCount slot number) = MayFill state by slot number
Guard config state by (FillAddr slot entry number) = MayFill state by slot number
Guard config state by (FillExpected slot entry number) = MayFill state by slot number
Guard config state by (FillNew slot entry number) = MayFill state by slot number
Guard config state by (SetRow row) = MaySetRow config state by row
Guard config state by (Claim own gate tenant request entries) = MayClaim config state own gate tenant entries
Guard config state by (Pin slot gate) = MayPin state slot gate
Guard config state by (Unpin slot) = MayUnpin state slot
Guard config state by (Free slot gate) = MayFree state slot gate
Guard config state by (Prepare target) = MayPrepare state by target
Guard config state by (SayYes target) = MaySayYes state target
Guard config state by (SayNo target entry value) = MaySayNo state target entry value
Guard config state by (Seal target) = MaySeal state target
Guard config state by (Settle target) = MaySettle state target
Guard config state by (Cancel target entry value) = MayCancel state target entry value
Guard config state by (Plant tenant address number) = MayPlant state by tenant address number (state.cells.rows by)
Guard config state by (SkipNumber number) = (state.worker_states by).attempt ≤ number + 1
Guard config state by (TakeBack tenant address worker number value) = MayTakeBack state tenant address worker number value (state.cells.rows worker)
Guard config state by (Hold tenant address worker number target) = MayHold state by tenant address worker number target
Guard config state by (WriteNew tenant address target value) = MayWriteNew state tenant address target value
Guard config state by (LetGo tenant address target value) = MayLetGo state tenant address target value
Guard config state by (Clean tenant address target value) = MayClean state tenant address target value
Guard config state by (LeavePin target) = state.history.owner target.slot target.seq ≡ by
Guard config state by (DecideFault target) = Unit {0}
Guard config state by (SetIntent standing permission) = MaySetIntent state by standing permission

-- Each of these moves of a worker has its precondition when it is made, one after the other.
abbrev pub Guards : Config → State → ℕ → List Move → Type 0
Guards config state by [] = Unit {0}
Guards config state by (move ∷ moves) = Guard config state by move × Guards config (made state by move) by moves
