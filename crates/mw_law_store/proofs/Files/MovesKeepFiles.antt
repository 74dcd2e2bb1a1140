-- Each move (elementary change of shared words) keeps `HasFiles`. Exceptions: a fault set at a door, a slot freed while its
-- change is in its file, and the moves of a call on a file. Used by: CallFiles, TurnFiles.
use Rattle.std.specs.Prelude.{ℕ, ◌≡◌, false, List, [], ◌∷◌}
use Rattle.std.proofs.Common.{refl, sym, ap, ◌∙◌, arith}
use Rattle.std.proofs.lemmas.Bool.Decides.{nat_tests}
use Rattle.mw_words.specs.declared.doors.Door.{Door}
use Rattle.mw_words.specs.declared.gates.Gate.{Gate}
use Rattle.mw_words.specs.declared.jobs.Entry.{Entry}
use Rattle.mw_words.specs.declared.statuses.Status.{Status}
use Rattle.mw_words.specs.declared.statuses.Status.TheVariants.{Open, YesDirty, No}
use Rattle.mw_pool.specs.Moves.{after_unpin}
use Rattle.mw_actor.specs.declared.points.Slot.{Slot}
use Rattle.mw_world.specs.Files.State.{Empty}
use Rattle.mw_world.specs.Maps.{upd, upd_two}
use Rattle.mw_world.specs.declared.config.Config.{Config}
use Rattle.mw_world.specs.Claim.Invariant.{placed}
use Rattle.mw_world.specs.Definition.State.{State}
use Rattle.mw_law_runs.specs.Moves.Guards.{Guard, Guards}
use Rattle.mw_law_runs.specs.Moves.Memory.{Memory}
use Rattle.mw_law_runs.specs.Moves.Moves.{Move, SetDoor, FillStatus, FillCount, FillAddr, FillExpected, FillNew, SetRow, Claim, Pin, Unpin, Free, Prepare, SayYes, SayNo, Seal, Settle, Cancel, Plant, SkipNumber, TakeBack, Hold, WriteNew, LetGo, Clean, LeavePin, DecideFault, SetIntent, made, made_all}
use Rattle.mw_law_runs.specs.Moves.Values.{is_seal}
use Rattle.mw_law_runs.proofs.Moves.MovesKeepMemory.{move_keeps}
use Rattle.mw_law_runs.proofs.Moves.Phases.{claimed_draft}
use Rattle.mw_law_runs.proofs.Moves.ValuesOverMoves.{moves_keep_values}
use Rattle.mw_law_store.proofs.Files.StepsLeaveFiles.{TellsSame}
use Rattle.mw_law_store.proofs.Files.Tenants.{due, due_of}

-- the slot's change is not in its tenant's file
abbrev pub IsOutOfFile : State → ℕ → Type 0
IsOutOfFile state slot = placed (state.history.fate slot (state.cells.gates slot).seq) (state.history.change slot (state.cells.gates slot).seq) ≡ Empty

-- What a move of a step needs, so that it leaves files alone.
abbrev pub LeavesFiles : State → Move → Type 0
LeavesFiles state (SetDoor tenant door) = door.fault ≡ (state.cells.doors tenant).fault
LeavesFiles state (Free slot gate) = IsOutOfFile state slot
LeavesFiles state (Prepare target) = ⊥
LeavesFiles state (Seal target) = ⊥
LeavesFiles state (Settle target) = ⊥
LeavesFiles state (Cancel target entry value) = ⊥
LeavesFiles state move = Unit {0}

-- several moves, one after the other, leave files alone
abbrev pub LeaveFiles : State → ℕ → List Move → Type 0
LeaveFiles state by [] = Unit {0}
LeaveFiles state by (move ∷ moves) = LeavesFiles state move × LeaveFiles (made state by move) by moves

module _ (tenant : ℕ) where
  -- the same place is due to a slot under another gate with the same number, if that is as taken as before
  gate_due : (gates : ℕ → Gate) (i slot : ℕ) (to : Gate) (owners : ℕ → ℕ → ℕ) (fates : ℕ → ℕ → Status) (changes : ℕ → ℕ → List Entry) → to.taken ≡ (gates i).taken → to.seq ≡ (gates i).seq
      → due_of (upd gates i to slot) (owners slot (upd gates i to slot).seq) (fates slot (upd gates i to slot).seq) (changes slot (upd gates i to slot).seq) tenant
      ≡ due_of (gates slot) (owners slot (gates slot).seq) (fates slot (gates slot).seq) (changes slot (gates slot).seq) tenant
  gate_due gates i slot to owners fates changes taken seq = grind (arith, nat_tests, taken, seq)

  -- a change gets another status that puts it in the same place
  fate_due : (gate : Gate) (owner : ℕ) (fates : ℕ → ℕ → Status) (i j slot seq : ℕ) (to : Status) (change : List Entry) → ((entries : List Entry) → placed to entries ≡ placed (fates i j) entries)
      → due_of gate owner (upd_two fates i j to slot seq) change tenant ≡ due_of gate owner (fates slot seq) change tenant
  fate_due gate owner fates i j slot seq to change same = grind (arith, nat_tests, same change)

module _ (config : Config) (state : State) (by : ℕ) (memory : Memory config state) (tenant slot : ℕ) where
  claim_due : (own : Slot) (gate : Gate) (of request : ℕ) (entries : List Entry) → Guard config state by (Claim own gate of request entries)
      → due (made state by (Claim own gate of request entries)) tenant slot ≡ due state tenant slot
  claim_due own gate of request entries guard =
      let draft = claimed_draft config state own memory guard.was_free guard.had_number in
      grind (arith, nat_tests, draft, guard.was_free, guard.had_number, guard.has_number)

  free_due : (at : ℕ) (gate : Gate) → Guard config state by (Free at gate) → IsOutOfFile state at → due (made state by (Free at gate)) tenant slot ≡ due state tenant slot
  free_due at gate guard out = grind (arith, nat_tests, guard.frees.is_not_taken, out)

  no_status : (entry value : ℕ) (entries : List Entry) (fate : Status) → fate ≡ Open → placed (No entry value) entries ≡ placed fate entries
  no_status entry value entries fate is = ap (λ (status : Status). placed status entries) (sym is)

  yes_status : (entries : List Entry) (fate : Status) → fate ≡ Open → placed YesDirty entries ≡ placed fate entries
  yes_status entries fate is = ap (λ (status : Status). placed status entries) (sym is)

  pub move_due : (move : Move) → Guard config state by move → LeavesFiles state move → due (made state by move) tenant slot ≡ due state tenant slot
  move_due (Claim own gate of request entries) guard leaves = claim_due own gate of request entries guard
  move_due (Pin at gate) guard leaves =
      gate_due tenant state.cells.gates at slot gate state.history.tenant state.history.fate state.history.change (guard.pins.is_taken ∙ sym guard.pins.was_taken) guard.pins.same_number
  move_due (Unpin at) guard leaves = gate_due tenant state.cells.gates at slot (after_unpin (state.cells.gates at)) state.history.tenant state.history.fate state.history.change refl refl
  move_due (Free at gate) guard leaves = free_due at gate guard leaves
  move_due (SayYes target) guard leaves =
      fate_due tenant (state.cells.gates slot) (state.history.tenant slot (state.cells.gates slot).seq) state.history.fate target.slot target.seq slot (state.cells.gates slot).seq YesDirty
      (state.history.change slot (state.cells.gates slot).seq) (λ entries. yes_status entries (state.history.fate target.slot target.seq) guard.is_open)
  move_due (SayNo target entry value) guard leaves =
      fate_due tenant (state.cells.gates slot) (state.history.tenant slot (state.cells.gates slot).seq) state.history.fate target.slot target.seq slot (state.cells.gates slot).seq (No entry value)
      (state.history.change slot (state.cells.gates slot).seq) (λ entries. no_status entry value entries (state.history.fate target.slot target.seq) guard.is_open)
  move_due (Prepare target) guard leaves = absurd leaves
  move_due (Seal target) guard leaves = absurd leaves
  move_due (Settle target) guard leaves = absurd leaves
  move_due (Cancel target entry value) guard leaves = absurd leaves
  move_due (SetDoor at door) guard leaves = refl
  move_due (FillStatus at) guard leaves = refl
  move_due (FillCount at number) guard leaves = refl
  move_due (FillAddr at entry number) guard leaves = refl
  move_due (FillExpected at entry number) guard leaves = refl
  move_due (FillNew at entry number) guard leaves = refl
  move_due (SetRow row) guard leaves = refl
  move_due (Plant at address number) guard leaves = refl
  move_due (SkipNumber number) guard leaves = refl
  move_due (TakeBack at address worker number value) guard leaves = refl
  move_due (Hold at address worker number target) guard leaves = refl
  move_due (WriteNew at address target value) guard leaves = refl
  move_due (LetGo at address target value) guard leaves = refl
  move_due (Clean at address target value) guard leaves = refl
  move_due (LeavePin target) guard leaves = refl
  move_due (DecideFault target) guard leaves = refl
  move_due (SetIntent standing permission) guard leaves = refl

-- a door that has the fault exactly if another had it
pub door_fault : (doors : ℕ → Door) (i tenant : ℕ) (to : Door) → to.fault ≡ (doors i).fault → (upd doors i to tenant).fault ≡ (doors tenant).fault
door_fault doors i tenant to same = grind (arith, nat_tests, same)

move_fault : (state : State) (by tenant : ℕ) (move : Move) → LeavesFiles state move → ((made state by move).cells.doors tenant).fault ≡ (state.cells.doors tenant).fault
move_fault state by tenant (SetDoor at door) leaves = door_fault state.cells.doors at tenant door leaves
move_fault state by tenant move leaves = refl

no_seal : (state : State) (move : Move) → LeavesFiles state move → is_seal move ≡ false
no_seal state (Seal target) leaves = absurd leaves
no_seal state move leaves = refl

pub move_tells : (config : Config) (state : State) (by : ℕ) (move : Move) → Guard config state by move → Memory config state → LeavesFiles state move → TellsSame state (made state by move)
move_tells config state by move guard memory leaves = record {
  dues = λ tenant slot. move_due config state by memory tenant slot move guard leaves;
  faults = λ tenant. move_fault state by tenant move leaves;
  values = λ tenant address. moves_keep_values config state by move tenant address (no_seal state move leaves) guard memory;
}

pub tells_on : (one two three : State) → TellsSame one two → TellsSame two three → TellsSame one three
tells_on one two three first second = record {
  dues = λ tenant slot. second.dues tenant slot ∙ first.dues tenant slot;
  faults = λ tenant. second.faults tenant ∙ first.faults tenant;
  values = λ tenant address. second.values tenant address ∙ first.values tenant address;
}

pub moves_tell : (config : Config) (state : State) (by : ℕ) (moves : List Move) → Guards config state by moves → Memory config state → LeaveFiles state by moves → TellsSame state (made_all state by moves)
moves_tell config state by [] guards memory leave = record { dues = λ tenant slot. refl; faults = λ tenant. refl; values = λ tenant address. refl }
moves_tell config state by (move ∷ moves) guards memory leave =
    tells_on state (made state by move) (made_all (made state by move) by moves) (move_tells config state by move guards.0 memory leave.0)
    (moves_tell config (made state by move) by moves guards.1 (move_keeps config state by move guards.0 memory) leave.1)
