-- Each move of one worker (elementary change of shared words, history or attempt numbers) keeps what other workers rely on
-- (`Rely`); so do several.
-- Used by: others_may_rely.
use Rattle.std.proofs.Common.{ℕ, [], ◌∷◌, arith}
use Rattle.std.proofs.lemmas.Bool.Decides.{nat_tests}
use Rattle.mw_world.specs.Definition.State.{State}
use Rattle.mw_law_runs.specs.Moves.Moves.{SetDoor, FillStatus, FillCount, FillAddr, FillExpected, FillNew, SetRow, Claim, Pin, Unpin, Free, Prepare, SayYes, SayNo, Seal, Settle, Cancel, Plant, SkipNumber, TakeBack, Hold, WriteNew, LetGo, Clean, LeavePin, DecideFault, SetIntent, made, made_all}
use Rattle.mw_law_runs.specs.Moves.Rely.{Rely, MovesKeepRely, MoveListsKeepRely, RelyIsTransitive}
use Rattle.mw_law_runs.proofs.Moves.MovesKeepMemory.{move_keeps}
use Rattle.mw_law_runs.proofs.Moves.RelyingOnFills.{door_lets_rely, status_lets_rely, count_lets_rely, addr_lets_rely, expected_lets_rely, new_lets_rely, row_lets_rely, skip_number_lets_rely, leave_pin_lets_rely, decide_fault_lets_rely, set_intent_lets_rely}
use Rattle.mw_law_runs.proofs.Moves.RelyingOnGates.{claim_lets_rely, pin_lets_rely, unpin_lets_rely, free_lets_rely}
use Rattle.mw_law_runs.proofs.Moves.RelyingOnDecisions.{prepare_lets_rely, say_yes_lets_rely, say_no_lets_rely, seal_lets_rely, settle_lets_rely, cancel_lets_rely}
use Rattle.mw_law_runs.proofs.Moves.RelyingOnWords.{plant_lets_rely, take_back_lets_rely, hold_lets_rely, write_new_lets_rely, let_go_lets_rely, clean_lets_rely}

pub reliance_goes_on : RelyIsTransitive
reliance_goes_on by first second third one two = record {
  attempts = λ worker. grind (arith, nat_tests, one.attempts worker, two.attempts worker);
  seqs = λ slot. grind (arith, nat_tests, one.seqs slot, two.seqs slot);
  taken = λ slot is same. grind (arith, nat_tests, one.taken slot, two.taken slot, one.seqs slot, two.seqs slot);
  faults = λ tenant is. grind (arith, nat_tests, one.faults tenant, two.faults tenant);
  rows = λ worker apart. grind (arith, nat_tests, one.rows worker, two.rows worker);
  own_attempts = λ worker apart. grind (arith, nat_tests, one.own_attempts worker, two.own_attempts worker);
  standing = λ worker apart. grind (arith, nat_tests, one.standing worker, two.standing worker);
  permissions = λ worker apart. grind (arith, nat_tests, one.permissions worker, two.permissions worker);
  stood = λ tenant address worker number old is. grind (arith, nat_tests, one.stood tenant address worker number, two.stood tenant address worker number, one.attempts worker);
  births = λ slot seq is. grind (arith, nat_tests, one.births slot seq, two.births slot seq);
  stays = λ slot seq is. grind (arith, nat_tests, one.stays slot seq, two.stays slot seq);
  stays_not = λ slot seq is apart. grind (arith, nat_tests, one.stays_not slot seq, two.stays_not slot seq, one.births slot seq);
  fault_decided = λ slot seq is. grind (arith, nat_tests, one.fault_decided slot seq, two.fault_decided slot seq);
  ready = λ slot seq was is. grind (arith, nat_tests, one.ready slot seq, two.ready slot seq);
  was_open = λ slot seq was is. grind (arith, nat_tests, one.was_open slot seq, two.was_open slot seq, one.ready slot seq);
  is_made = λ slot seq was. grind (arith, nat_tests, one.is_made slot seq, two.is_made slot seq);
  sealed = λ slot seq was. grind (arith, nat_tests, one.sealed slot seq, two.sealed slot seq, two.done slot seq);
  done = λ slot seq was. grind (arith, nat_tests, one.done slot seq, two.done slot seq);
  refused = λ slot seq entry value was. grind (arith, nat_tests, one.refused slot seq entry value, two.refused slot seq entry value, two.canceled slot seq entry value);
  canceled = λ slot seq entry value was. grind (arith, nat_tests, one.canceled slot seq entry value, two.canceled slot seq entry value);
  drafts = λ slot seq is apart was. grind (arith, nat_tests, one.drafts slot seq, two.drafts slot seq, one.births slot seq);
  filled = λ slot is claimed apart was same. grind (arith, nat_tests, one.filled slot, two.filled slot, one.seqs slot, two.seqs slot, one.taken slot, one.births slot (first.cells.gates slot).seq, one.drafts slot (first.cells.gates slot).seq);
  touched = λ slot seq address was is. grind (arith, nat_tests, one.touched slot seq address, two.touched slot seq address);
  was_acquired = λ slot seq address was is. grind (arith, nat_tests, one.was_acquired slot seq address, two.was_acquired slot seq address, one.touched slot seq address);
  acquired = λ slot seq address was is kept. grind (arith, nat_tests, one.acquired slot seq address, two.acquired slot seq address, one.ready slot seq, two.was_open slot seq);
  was_released = λ slot seq address was. grind (arith, nat_tests, one.was_released slot seq address, two.was_released slot seq address);
}

-- nothing changes
stays_put : (by : ℕ) (state : State) → Rely by state state
stays_put by state = record {
  attempts = λ worker. grind (arith, nat_tests);
  seqs = λ slot. grind (arith, nat_tests);
  taken = λ slot is same. grind (arith, nat_tests);
  faults = λ tenant is. grind (arith, nat_tests);
  rows = λ worker apart. grind (arith, nat_tests);
  own_attempts = λ worker apart. grind (arith, nat_tests);
  standing = λ worker apart. grind (arith, nat_tests);
  permissions = λ worker apart. grind (arith, nat_tests);
  stood = λ tenant address worker number old is. grind (arith, nat_tests);
  births = λ slot seq is. grind (arith, nat_tests);
  stays = λ slot seq is. grind (arith, nat_tests);
  stays_not = λ slot seq is apart. grind (arith, nat_tests);
  fault_decided = λ slot seq is. grind (arith, nat_tests);
  ready = λ slot seq was is. grind (arith, nat_tests);
  was_open = λ slot seq was is. grind (arith, nat_tests);
  is_made = λ slot seq was. grind (arith, nat_tests);
  sealed = λ slot seq was. grind (arith, nat_tests);
  done = λ slot seq was. grind (arith, nat_tests);
  refused = λ slot seq entry value was. grind (arith, nat_tests);
  canceled = λ slot seq entry value was. grind (arith, nat_tests);
  drafts = λ slot seq is apart was. grind (arith, nat_tests);
  filled = λ slot is claimed apart was same. grind (arith, nat_tests);
  touched = λ slot seq address was is. grind (arith, nat_tests);
  was_acquired = λ slot seq address was is. grind (arith, nat_tests);
  acquired = λ slot seq address was is kept. grind (arith, nat_tests);
  was_released = λ slot seq address was. grind (arith, nat_tests);
}

pub others_rely : MovesKeepRely
others_rely config state by (SetDoor tenant door) guard memory = door_lets_rely config state by tenant door guard memory
others_rely config state by (FillStatus slot) guard memory = status_lets_rely config state by slot guard memory
others_rely config state by (FillCount slot number) guard memory = count_lets_rely config state by slot number guard memory
others_rely config state by (FillAddr slot entry number) guard memory = addr_lets_rely config state by slot entry number guard memory
others_rely config state by (FillExpected slot entry number) guard memory = expected_lets_rely config state by slot entry number guard memory
others_rely config state by (FillNew slot entry number) guard memory = new_lets_rely config state by slot entry number guard memory
others_rely config state by (SetRow row) guard memory = row_lets_rely config state by row guard memory
others_rely config state by (Claim own gate tenant request entries) guard memory = claim_lets_rely config state by own gate tenant request entries guard memory
others_rely config state by (Pin slot gate) guard memory = pin_lets_rely config state by slot gate guard memory
others_rely config state by (Unpin slot) guard memory = unpin_lets_rely config state by slot guard memory
others_rely config state by (Free slot gate) guard memory = free_lets_rely config state by slot gate guard memory
others_rely config state by (Prepare target) guard memory = prepare_lets_rely config state by target guard memory
others_rely config state by (SayYes target) guard memory = say_yes_lets_rely config state by target guard memory
others_rely config state by (SayNo target entry value) guard memory = say_no_lets_rely config state by target entry value guard memory
others_rely config state by (Seal target) guard memory = seal_lets_rely config state by target guard memory
others_rely config state by (Settle target) guard memory = settle_lets_rely config state by target guard memory
others_rely config state by (Cancel target entry value) guard memory = cancel_lets_rely config state by target entry value guard memory
others_rely config state by (Plant tenant address number) guard memory = plant_lets_rely config state by tenant address number guard memory
others_rely config state by (SkipNumber number) guard memory = skip_number_lets_rely config state by number guard memory
others_rely config state by (TakeBack tenant address worker number value) guard memory = take_back_lets_rely config state by tenant address worker number value guard memory
others_rely config state by (Hold tenant address worker number target) guard memory = hold_lets_rely config state by tenant address worker number target guard memory
others_rely config state by (WriteNew tenant address target value) guard memory = write_new_lets_rely config state by tenant address target value guard memory
others_rely config state by (LetGo tenant address target value) guard memory = let_go_lets_rely config state by tenant address target value guard memory
others_rely config state by (Clean tenant address target value) guard memory = clean_lets_rely config state by tenant address target value guard memory
others_rely config state by (LeavePin target) guard memory = leave_pin_lets_rely config state by target guard memory
others_rely config state by (DecideFault target) guard memory = decide_fault_lets_rely config state by target guard memory
others_rely config state by (SetIntent standing permission) guard memory = set_intent_lets_rely config state by standing permission guard memory

pub others_rely_on_all : MoveListsKeepRely
others_rely_on_all config state by [] guards memory = stays_put by state
others_rely_on_all config state by (move ∷ moves) guards memory =
    reliance_goes_on by state (made state by move) (made_all (made state by move) by moves) (others_rely config state by move guards.0 memory)
    (others_rely_on_all config (made state by move) by moves guards.1 (move_keeps config state by move guards.0 memory))
