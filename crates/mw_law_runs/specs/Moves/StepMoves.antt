-- Lists the moves (elementary changes of the shared words and the history) of each step of a request and each call on a file.
-- Used by: src/move_laws.rt, mw_law_store.
use Rattle.std.specs.Prelude.{ℕ, ◌≡◌, ◌-◌, ◌++◌, Bool, true, false, List, [], ◌∷◌, length, Some}
use Rattle.mw_words.specs.declared.statuses.Status.{Status}
use Rattle.mw_words.specs.declared.statuses.Status.TheVariants.{No}
use Rattle.mw_words.specs.declared.replies.Reply.TheVariants.{Fault as SaysFault}
use Rattle.mw_words.specs.declared.doors.Door.{Door}
use Rattle.mw_look.specs.declared.observations.Observation.{Observation}
use Rattle.mw_look.specs.declared.observations.Observation.TheVariants.{Won, Filed}
use Rattle.mw_look.specs.declared.points.Point.{Point as ReadPoint}
use Rattle.mw_look.specs.declared.points.Point.TheVariants.{Pin as PinOfRead, Unpin as UnpinOfRead, FreeSlot as FreeOfRead, LowerDoor as LowerOfRead}
use Rattle.mw_look.specs.declared.steps.Call.{Call}
use Rattle.mw_look.specs.declared.steps.Call.TheVariants.{Prepare as PrepareCall, Seal as SealCall, Settle as SettleCall, Cancel as CancelCall}
use Rattle.mw_look.specs.Program.{slot_of, freed}
use Rattle.mw_actor.specs.declared.points.Slot.{Slot}
use Rattle.mw_actor.specs.declared.points.Sweep.{Sweep}
use Rattle.mw_actor.specs.declared.points.Sweep.TheVariants.{Yes as SweepYes}
use Rattle.mw_actor.specs.declared.points.Point.{Point}
use Rattle.mw_actor.specs.declared.points.Point.TheVariants.{Read, Admit, Claim as ClaimPoint, FillStatus as StatusPoint, FillCount as CountPoint, FillAddr as AddrPoint, FillExpected as ExpectedPoint, FillNew as NewPoint, AnnounceRow, Plant as PlantPoint, DecideYes, DecideNo, Resolve, PinOther, Release, Clean as CleanPoint, SweepResolve, Unpin as UnpinPoint, FreeSlot, LowerDoor, GiveUp, Replied}
use Rattle.mw_actor.specs.ActorState.{ActorState, own_entries, entry_at, entry_of}
use Rattle.mw_actor.specs.Asks.{asks, row_of}
use Rattle.mw_actor.specs.Program.{tells}
use Rattle.mw_world.specs.declared.config.Config.{Config}
use Rattle.mw_world.specs.declared.outcomes.Outcome.{Outcome}
use Rattle.mw_world.specs.declared.outcomes.Outcome.TheVariants.{Good, Fail}
use Rattle.mw_world.specs.Definition.Calls.{Called, call, called_at, starts_from, fails_on}
use Rattle.mw_world.specs.Definition.Changes.{done}
use Rattle.mw_world.specs.Definition.History.{standing_at, permission_at}
use Rattle.mw_world.specs.Definition.State.{State}
use Rattle.mw_world.specs.Definition.Turns.{turn, next_attempt}
use Rattle.mw_law_runs.specs.Moves.Moves.{Move, SetDoor, FillStatus, FillCount, FillAddr, FillExpected, FillNew, SetRow, Claim, Pin, Unpin, Free, Prepare, SayYes, SayNo, Seal, Settle, Cancel, Plant, SkipNumber, TakeBack, Hold, WriteNew, LetGo, Clean, LeavePin, DecideFault, SetIntent, made_all}

-- The two worlds have the same shared words, the same history and the same numbers of attempts.
pub record SameMemory (one other : State) : Type 0 where
  pub cells : one.cells ≡ other.cells
  pub history : one.history ≡ other.history
  pub attempts : (worker : ℕ) → (one.worker_states worker).attempt ≡ (other.worker_states worker).attempt

-- the door with one slot less, and the door with the fault
abbrev pub lowered : State → ℕ → Door
lowered state tenant = record (state.cells.doors tenant) { used = (state.cells.doors tenant).used - 1 }

abbrev pub faulted : State → ℕ → Door
faulted state tenant = record (state.cells.doors tenant) { fault = true }

-- an attempt is exchanged for the held word if the change was open, else it is taken back
abbrev pub resolve_moves : Bool → ℕ → ℕ → ℕ → ℕ → Slot → ℕ → List Move
resolve_moves true tenant address worker number target value = Hold tenant address worker number target ∷ []
resolve_moves false tenant address worker number target value = TakeBack tenant address worker number value ∷ []

-- a held word gets its new value if the change is made, else its old one back
abbrev pub release_moves : Sweep → ℕ → ℕ → Slot → ℕ → ℕ → List Move
release_moves SweepYes tenant address target expected new = WriteNew tenant address target new ∷ []
release_moves sweep tenant address target expected new = LetGo tenant address target expected ∷ []

-- a request gives up and leaves its pin behind; if its reply is FAULT, that is decided for it
abbrev pub give_up_moves : Slot → Point → List Move
give_up_moves own (Replied SaysFault) = LeavePin own ∷ DecideFault own ∷ []
give_up_moves own point = LeavePin own ∷ []

-- the moves of a read's step
abbrev pub read_moves : State → ℕ → ReadPoint → Observation → List Move
read_moves state tenant (PinOfRead trail from to) Won = Pin (slot_of trail) to ∷ []
read_moves state tenant (UnpinOfRead slot seq after) observation = Unpin slot ∷ []
read_moves state tenant (FreeOfRead slot seq after) observation = Free slot (freed seq) ∷ []
read_moves state tenant (LowerOfRead after) observation = SetDoor tenant (lowered state tenant) ∷ []
read_moves state tenant point observation = []

-- The moves of a step of a worker's request at a point, by what the request learns and by its next point.
abbrev pub moves_at : State → ℕ → ActorState → Point → Observation → Point → List Move
moves_at state worker actor (Read look) observation after = read_moves state look.tenant look.point observation
moves_at state worker actor (Admit from to) Won after = SetDoor actor.tenant to ∷ []
moves_at state worker actor (ClaimPoint slot saw_worn from to) Won after =
    Claim (record { slot = slot; seq = from.seq }) to actor.tenant (state.worker_states worker).request (own_entries actor) ∷ []
moves_at state worker actor (StatusPoint own) observation after = FillStatus own.slot ∷ []
moves_at state worker actor (CountPoint own) observation after = FillCount own.slot (length (own_entries actor)) ∷ []
moves_at state worker actor (AddrPoint own entry) observation after = FillAddr own.slot entry (entry_at (own_entries actor) entry).addr ∷ []
moves_at state worker actor (ExpectedPoint own entry) observation after = FillExpected own.slot entry (entry_at (own_entries actor) entry).expected ∷ []
moves_at state worker actor (NewPoint own entry) observation after = FillNew own.slot entry (entry_at (own_entries actor) entry).new ∷ []
moves_at state worker actor (AnnounceRow task entry number) observation after = SetRow (row_of task.target entry) ∷ []
moves_at state worker actor (PlantPoint task entry number) Won after = Plant actor.tenant (entry_of actor task entry).addr number ∷ []
moves_at state worker actor (PlantPoint task entry number) observation after = SkipNumber number ∷ []
moves_at state worker actor (DecideYes task) Won after = SayYes task.target ∷ []
moves_at state worker actor (DecideNo task entry value) Won after = SayNo task.target entry value ∷ []
moves_at state worker actor (Resolve task entry attempt was_open) Won after =
    resolve_moves was_open actor.tenant (entry_of actor task entry).addr attempt.worker attempt.number task.target (entry_of actor task entry).expected
moves_at state worker actor (PinOther task other from to) Won after = Pin other.slot to ∷ []
moves_at state worker actor (Release task sweep entry) Won after =
    release_moves sweep actor.tenant (entry_of actor task entry).addr task.target (entry_of actor task entry).expected (entry_of actor task entry).new
moves_at state worker actor (CleanPoint task entry value) Won after = Clean actor.tenant (entry_of actor task entry).addr task.target value ∷ []
moves_at state worker actor (SweepResolve task sweep entry attempt) Won after =
    TakeBack actor.tenant (entry_of actor task entry).addr attempt.worker attempt.number (entry_of actor task entry).expected ∷ []
moves_at state worker actor (UnpinPoint slot after) observation point = Unpin slot.slot ∷ []
moves_at state worker actor (FreeSlot slot after) observation point = Free slot.slot (freed slot.seq) ∷ []
moves_at state worker actor (LowerDoor after) observation point = SetDoor actor.tenant (lowered state actor.tenant) ∷ []
moves_at state worker actor (GiveUp own undecided) observation after = give_up_moves own after
moves_at state worker actor point observation after = []

-- the worker's standing attempt and permission become those that its request's point says
abbrev pub set_intent : ActorState → Move
set_intent actor = SetIntent (standing_at actor actor.point) (permission_at actor actor.point)

-- the request after it learns this of its step
abbrev pub next_of : State → ℕ → ActorState → Observation → ActorState
next_of state worker actor observation = tells actor observation (next_attempt actor.point (state.worker_states worker).attempt)

-- the moves of a step of which the request learns this
abbrev pub moves_told : State → ℕ → ActorState → Observation → List Move
moves_told state worker actor observation = moves_at state worker actor actor.point observation (next_of state worker actor observation).point ++ set_intent (next_of state worker actor observation) ∷ []

-- The moves of a step that is no call on a file.
abbrev pub moves_of_turn : State → ℕ → ActorState → List Move
moves_of_turn state worker actor = done (asks actor) state.cells (λ cells observation. moves_told state worker actor observation)

-- a call that goes well gives its change another status
abbrev pub status_moves : Call → Slot → Status → List Move
status_moves PrepareCall target status = Prepare target ∷ []
status_moves SealCall target status = Seal target ∷ []
status_moves SettleCall target status = Settle target ∷ []
status_moves CancelCall target (No entry value) = Cancel target entry value ∷ []
status_moves CancelCall target status = []

-- a device that fails while a change is sealed decides the reply FAULT for the change's request
abbrev pub broken_moves : Call → Slot → List Move
broken_moves SealCall target = DecideFault target ∷ []
broken_moves call target = []

-- the moves of a call on a file, by the change's status, whether the call starts, whether the file had failed, and what the device does
abbrev pub call_moves : State → ActorState → Called → Status → Bool → Bool → Outcome → List Move
call_moves state actor called status false had_failed outcome = []
call_moves state actor called status true true outcome = SetDoor actor.tenant (faulted state actor.tenant) ∷ []
call_moves state actor called status true false Good = status_moves called.call called.change status
call_moves state actor called status true false (Fail number) = SetDoor actor.tenant (faulted state actor.tenant) ∷ broken_moves called.call called.change

-- what a request learns of a call
abbrev pub call_observation : Bool → Bool → Outcome → Observation
call_observation false had_failed outcome = Filed true
call_observation true true outcome = Filed false
call_observation true false Good = Filed true
call_observation true false (Fail number) = Filed false

-- the moves of a call on a file, by how the call ends
abbrev pub moves_called : State → ℕ → ActorState → Called → Status → Bool → Bool → Outcome → List Move
moves_called state worker actor called status starts had_failed outcome =
    call_moves state actor called status starts had_failed outcome ++ set_intent (next_of state worker actor (call_observation starts had_failed outcome)) ∷ []

-- The moves of a call on a file.
abbrev pub moves_of_call : State → ℕ → ActorState → Called → Outcome → List Move
moves_of_call state worker actor called outcome =
    let status = state.cells.statuses called.change.slot in
    moves_called state worker actor called status (starts_from called.call status) (fails_on called.call (state.tenant_states actor.tenant).file) outcome

-- A step that is no call changes memory as its moves do.
abbrev pub TurnsAreMoves : Type 0
TurnsAreMoves = (config : Config) (state next : State) (worker : ℕ) (actor : ActorState) → actor.worker ≡ worker
    → turn config state worker (Some actor) ≡ Some next → SameMemory next (made_all state worker (moves_of_turn state worker actor))

-- A call on a file changes memory as its moves do.
abbrev pub CallsAreMoves : Type 0
CallsAreMoves = (config : Config) (state next : State) (worker : ℕ) (actor : ActorState) (called : Called) (outcome : Outcome) → called_at actor.point ≡ Some called
    → call config state worker (Some actor) outcome ≡ Some next → SameMemory next (made_all state worker (moves_of_call state worker actor called outcome))
