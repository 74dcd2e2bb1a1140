-- Each move (elementary change of shared words, history or attempt numbers), or several, keeps `Memory`, the invariant of the
-- shared words, if its precondition holds.
-- Used by: moves_keep_memory, mw_law_store.
use Rattle.std.proofs.Common.{[], ◌∷◌}
use Rattle.mw_law_runs.specs.Moves.Laws.{MoveKeepsMemory, MovesKeepMemory}
use Rattle.mw_law_runs.specs.Moves.Moves.{SetDoor, FillStatus, FillCount, FillAddr, FillExpected, FillNew, SetRow, Claim, Pin, Unpin, Free, Prepare, SayYes, SayNo, Seal, Settle, Cancel, Plant, SkipNumber, TakeBack, Hold, WriteNew, LetGo, Clean, LeavePin, DecideFault, SetIntent, made}
use Rattle.mw_law_runs.proofs.Moves.StatusChanges.{prepare_keeps, say_yes_keeps, say_no_keeps, seal_keeps, settle_keeps, cancel_keeps}
use Rattle.mw_law_runs.proofs.Moves.DoorAndEntryChanges.{door_keeps, status_keeps, count_keeps, addr_keeps, expected_keeps, new_keeps}
use Rattle.mw_law_runs.proofs.Moves.GateChanges.{claim_keeps, pin_keeps, unpin_keeps, free_keeps}
use Rattle.mw_law_runs.proofs.Moves.WordChanges.{hold_keeps, write_new_keeps, let_go_keeps, clean_keeps}
use Rattle.mw_law_runs.proofs.Moves.RowAndPinChanges.{row_keeps, skip_number_keeps, leave_pin_keeps, decide_fault_keeps, set_intent_keeps}
use Rattle.mw_law_runs.proofs.Moves.AttemptChanges.{plant_keeps, take_back_keeps}

pub move_keeps : MoveKeepsMemory
move_keeps config state by (SetDoor tenant door) guard memory = door_keeps config state by tenant door guard memory
move_keeps config state by (FillStatus slot) guard memory = status_keeps config state by slot guard memory
move_keeps config state by (FillCount slot number) guard memory = count_keeps config state by slot number guard memory
move_keeps config state by (FillAddr slot entry number) guard memory = addr_keeps config state by slot entry number guard memory
move_keeps config state by (FillExpected slot entry number) guard memory = expected_keeps config state by slot entry number guard memory
move_keeps config state by (FillNew slot entry number) guard memory = new_keeps config state by slot entry number guard memory
move_keeps config state by (SetRow row) guard memory = row_keeps config state by row guard memory
move_keeps config state by (Claim own gate tenant request entries) guard memory = claim_keeps config state by own gate tenant request entries guard memory
move_keeps config state by (Pin slot gate) guard memory = pin_keeps config state by slot gate guard memory
move_keeps config state by (Unpin slot) guard memory = unpin_keeps config state by slot guard memory
move_keeps config state by (Free slot gate) guard memory = free_keeps config state by slot gate guard memory
move_keeps config state by (Prepare target) guard memory = prepare_keeps config state by target guard memory
move_keeps config state by (SayYes target) guard memory = say_yes_keeps config state by target guard memory
move_keeps config state by (SayNo target entry value) guard memory = say_no_keeps config state by target entry value guard memory
move_keeps config state by (Seal target) guard memory = seal_keeps config state by target guard memory
move_keeps config state by (Settle target) guard memory = settle_keeps config state by target guard memory
move_keeps config state by (Cancel target entry value) guard memory = cancel_keeps config state by target entry value guard memory
move_keeps config state by (Plant tenant address number) guard memory = plant_keeps config state by tenant address number guard memory
move_keeps config state by (SkipNumber number) guard memory = skip_number_keeps config state by number guard memory
move_keeps config state by (TakeBack tenant address worker number value) guard memory = take_back_keeps config state by tenant address worker number value guard memory
move_keeps config state by (Hold tenant address worker number target) guard memory = hold_keeps config state by tenant address worker number target guard memory
move_keeps config state by (WriteNew tenant address target value) guard memory = write_new_keeps config state by tenant address target value guard memory
move_keeps config state by (LetGo tenant address target value) guard memory = let_go_keeps config state by tenant address target value guard memory
move_keeps config state by (Clean tenant address target value) guard memory = clean_keeps config state by tenant address target value guard memory
move_keeps config state by (LeavePin target) guard memory = leave_pin_keeps config state by target guard memory
move_keeps config state by (DecideFault target) guard memory = decide_fault_keeps config state by target guard memory
move_keeps config state by (SetIntent standing permission) guard memory = set_intent_keeps config state by standing permission guard memory

pub moves_keep : MovesKeepMemory
moves_keep config state by [] guards memory = memory
moves_keep config state by (move ∷ moves) guards memory = moves_keep config (made state by move) by moves guards.1 (move_keeps config state by move guards.0 memory)
