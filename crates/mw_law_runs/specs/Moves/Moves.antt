-- Defines the moves: the elementary changes that a worker's step makes to the shared words, the history and the attempt
-- numbers. No move depends on a request's point or changes it.
-- Used by: mw_law_store.
use Rattle.std.specs.Prelude.{ℕ, ◌+◌, List, [], ◌∷◌}
use Rattle.mw_words.specs.declared.jobs.Entry.{Entry}
use Rattle.mw_words.specs.declared.places.At.{At}
use Rattle.mw_words.specs.declared.places.At.TheVariants.{Door as AtDoor, Gate as AtGate, Row as AtRow, Data, Status as AtStatus, Count, Addr, Expected, New}
use Rattle.mw_words.specs.declared.doors.Door.{Door}
use Rattle.mw_words.specs.declared.gates.Gate.{Gate}
use Rattle.mw_words.specs.declared.rows.Row.{Row}
use Rattle.mw_words.specs.declared.words.Word.{Word}
use Rattle.mw_words.specs.declared.words.Word.TheVariants.{Plain, Planted, Held, Dirty}
use Rattle.mw_words.specs.declared.statuses.Status.{Status}
use Rattle.mw_words.specs.declared.statuses.Status.TheVariants.{Draft, Open, YesDirty, Yes, No, DoneYes, DoneNo}
use Rattle.mw_pool.specs.Moves.{after_unpin}
use Rattle.mw_look.specs.Places.{Val}
use Rattle.mw_actor.specs.declared.points.Slot.{Slot}
use Rattle.mw_world.specs.declared.step_labels.Phase.{Phase}
use Rattle.mw_world.specs.declared.step_labels.Phase.TheVariants.{Acquired, Written, Released}
use Rattle.mw_world.specs.Definition.Cells.{write}
use Rattle.mw_world.specs.Definition.History.{StandingAttempt, AttemptIn, HoldPermission}
use Rattle.mw_world.specs.Maps.{upd, upd_three}
use Rattle.mw_world.specs.Definition.LabelEffects.{with_claim, with_status, left, with_fault_decided}
use Rattle.mw_world.specs.Definition.State.{State, WorkerState}

-- A move of a worker. A change is named by its slot and the slot's number.
pub data Move : Type 0 where
  -- a tenant's door is replaced: it counts a slot more or less, or has the fault
  SetDoor : (tenant : ℕ) (door : Door) → Move
  -- a change is written into its slot: its status as a draft, how many entries it has, and each part of an entry
  FillStatus : (slot : ℕ) → Move
  FillCount : (slot number : ℕ) → Move
  FillAddr : (slot entry number : ℕ) → Move
  FillExpected : (slot entry number : ℕ) → Move
  FillNew : (slot entry number : ℕ) → Move
  -- the worker's row names another entry
  SetRow : (row : Row) → Move
  -- the worker claims a slot for a tenant's request with these entries
  Claim : (own : Slot) (gate : Gate) (tenant request : ℕ) (entries : List Entry) → Move
  -- a slot gets a pin more, or one less; it is freed
  Pin : (slot : ℕ) (gate : Gate) → Move
  Unpin : (slot : ℕ) → Move
  Free : (slot : ℕ) (gate : Gate) → Move
  -- a change is opened; it is decided to be made, or not to be made; it is made; it is done with as made, or as not made
  Prepare : (target : Slot) → Move
  SayYes : (target : Slot) → Move
  SayNo : (target : Slot) (entry value : ℕ) → Move
  Seal : (target : Slot) → Move
  Settle : (target : Slot) → Move
  Cancel : (target : Slot) (entry value : ℕ) → Move
  -- the worker's attempt is planted in a word; the number of its attempt is skipped; an attempt is taken back, and the word gets this value
  Plant : (tenant address number : ℕ) → Move
  SkipNumber : (number : ℕ) → Move
  TakeBack : (tenant address worker number value : ℕ) → Move
  -- the worker, which has the permission to hold the word for the change, does so in place of an attempt
  Hold : (tenant address worker number : ℕ) (target : Slot) → Move
  -- a held word gets its change's new value, or its expected value; a written word no longer names its slot
  WriteNew : (tenant address : ℕ) (target : Slot) (value : ℕ) → Move
  LetGo : (tenant address : ℕ) (target : Slot) (value : ℕ) → Move
  Clean : (tenant address : ℕ) (target : Slot) (value : ℕ) → Move
  -- a request leaves its pin behind; the reply FAULT is decided for a change's request
  LeavePin : (target : Slot) → Move
  DecideFault : (target : Slot) → Move
  -- the worker's standing attempt becomes this one or none, and it gets the permission to hold this word or none
  SetIntent : (standing : StandingAttempt) (permission : HoldPermission) → Move

module _ (state : State) where
  -- the world with this value at a place
  abbrev pub put : (at : At) → Val at → State
  put at x = record state { cells = write state.cells at x }

  -- the world in which a change has this status
  abbrev pub decide : Slot → Status → State
  decide target status = record state { cells = write state.cells (AtStatus target.slot) status; history = with_status state.history target status }

  -- the workers, after one of them has used this attempt number
  abbrev pub counted_on : ℕ → ℕ → ℕ → WorkerState
  counted_on worker number = upd state.worker_states worker (record (state.worker_states worker) { attempt = number + 1 })

  -- the world with this word at a tenant's address, and the word in this phase for the change
  abbrev pub exchange : ℕ → ℕ → Slot → Word → Phase → State
  exchange tenant address target word phase = record state {
    cells = write state.cells (Data tenant address) word;
    history = record state.history { phase = upd_three state.history.phase target.slot target.seq address phase };
  }

  -- The world after a move of a worker.
  abbrev pub made : ℕ → Move → State
  made by (SetDoor tenant door) = put (AtDoor tenant) door
  made by (FillStatus slot) = put (AtStatus slot) Draft
  made by (FillCount slot number) = put (Count slot) number
  made by (FillAddr slot entry number) = put (Addr slot entry) number
  made by (FillExpected slot entry number) = put (Expected slot entry) number
  made by (FillNew slot entry number) = put (New slot entry) number
  made by (SetRow row) = put (AtRow by) row
  made by (Claim own gate tenant request entries) = record state {
    cells = write state.cells (AtGate own.slot) gate;
    history = with_claim state.history own.slot own.seq by tenant request entries;
  }
  made by (Pin slot gate) = put (AtGate slot) gate
  made by (Unpin slot) = put (AtGate slot) (after_unpin (state.cells.gates slot))
  made by (Free slot gate) = put (AtGate slot) gate
  made by (Prepare target) = decide target Open
  made by (SayYes target) = decide target YesDirty
  made by (SayNo target entry value) = decide target (No entry value)
  made by (Seal target) = decide target Yes
  made by (Settle target) = decide target DoneYes
  made by (Cancel target entry value) = decide target (DoneNo entry value)
  made by (Plant tenant address number) = record state {
    cells = write state.cells (Data tenant address) (Planted by number);
    worker_states = counted_on by number;
    history = record state.history { standing = upd state.history.standing by (AttemptIn tenant address number) };
  }
  made by (SkipNumber number) = record state { worker_states = counted_on by number }
  made by (TakeBack tenant address worker number value) = put (Data tenant address) (Plain value)
  made by (Hold tenant address worker number target) = exchange tenant address target (Held target.slot target.seq) Acquired
  made by (WriteNew tenant address target value) = exchange tenant address target (Dirty target.slot value) Written
  made by (LetGo tenant address target value) = exchange tenant address target (Plain value) Released
  made by (Clean tenant address target value) = exchange tenant address target (Plain value) Released
  made by (LeavePin target) = record state { history = left state.history target }
  made by (DecideFault target) = record state { history = with_fault_decided state.history target }
  made by (SetIntent standing permission) = record state {
    history = record state.history { standing = upd state.history.standing by standing; permission = upd state.history.permission by permission };
  }

-- the world after these moves of a worker, in their order
abbrev pub made_all : State → ℕ → List Move → State
made_all state by [] = state
made_all state by (move ∷ moves) = made_all (made state by move) by moves
