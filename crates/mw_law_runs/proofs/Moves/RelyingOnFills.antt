-- Moves that write into doors, slots and rows, and those that change only the history, keep what other workers rely on
-- (`Rely`). Used by: Relied.
use Rattle.std.proofs.Common.{ℕ, arith}
use Rattle.std.proofs.lemmas.Bool.Decides.{nat_tests}
use Rattle.mw_words.specs.declared.doors.Door.{Door}
use Rattle.mw_words.specs.declared.rows.Row.{Row}
use Rattle.mw_actor.specs.declared.points.Slot.{Slot}
use Rattle.mw_world.specs.declared.config.Config.{Config}
use Rattle.mw_world.specs.Definition.History.{StandingAttempt, HoldPermission}
use Rattle.mw_world.specs.Definition.State.{State}
use Rattle.mw_law_runs.specs.Moves.Moves.{SetDoor, FillStatus, FillCount, FillAddr, FillExpected, FillNew, SetRow, SkipNumber, LeavePin, DecideFault, SetIntent, made}
use Rattle.mw_law_runs.specs.Moves.Guards.{Guard}
use Rattle.mw_law_runs.specs.Moves.Memory.{Memory}
use Rattle.mw_law_runs.specs.Moves.Rely.{Rely}

pub door_lets_rely : (config : Config) (state : State) (mover : ℕ) (at_tenant : ℕ) (door : Door) → Guard config state mover (SetDoor at_tenant door) → Memory config state → Rely mover state (made state mover (SetDoor at_tenant door))
door_lets_rely config state mover at_tenant door guard memory =
    record {
      attempts = λ worker. grind (arith, nat_tests, guard.fault);
      seqs = λ slot. grind (arith, nat_tests, guard.fault);
      taken = λ slot is same. grind (arith, nat_tests, guard.fault);
      faults = λ tenant is. grind (arith, nat_tests, guard.fault);
      rows = λ worker apart. grind (arith, nat_tests, guard.fault);
      own_attempts = λ worker apart. grind (arith, nat_tests, guard.fault);
      standing = λ worker apart. grind (arith, nat_tests, guard.fault);
      permissions = λ worker apart. grind (arith, nat_tests, guard.fault);
      stood = λ tenant address worker number old is. grind (arith, nat_tests, guard.fault);
      births = λ slot seq is. grind (arith, nat_tests, guard.fault);
      stays = λ slot seq is. grind (arith, nat_tests, guard.fault);
      stays_not = λ slot seq is apart. grind (arith, nat_tests, guard.fault);
      fault_decided = λ slot seq is. grind (arith, nat_tests, guard.fault);
      ready = λ slot seq was is. grind (arith, nat_tests, guard.fault);
      was_open = λ slot seq was is. grind (arith, nat_tests, guard.fault);
      is_made = λ slot seq was. grind (arith, nat_tests, guard.fault);
      sealed = λ slot seq was. grind (arith, nat_tests, guard.fault);
      done = λ slot seq was. grind (arith, nat_tests, guard.fault);
      refused = λ slot seq entry value was. grind (arith, nat_tests, guard.fault);
      canceled = λ slot seq entry value was. grind (arith, nat_tests, guard.fault);
      drafts = λ slot seq is apart was. grind (arith, nat_tests, guard.fault);
      filled = λ slot is claimed apart was same. grind (arith, nat_tests, guard.fault);
      touched = λ slot seq address was is. grind (arith, nat_tests, guard.fault);
      was_acquired = λ slot seq address was is. grind (arith, nat_tests, guard.fault);
      acquired = λ slot seq address was is kept. grind (arith, nat_tests, guard.fault);
      was_released = λ slot seq address was. grind (arith, nat_tests, guard.fault);
    }

pub status_lets_rely : (config : Config) (state : State) (mover : ℕ) (own : ℕ) → Guard config state mover (FillStatus own) → Memory config state → Rely mover state (made state mover (FillStatus own))
status_lets_rely config state mover own guard memory =
    record {
      attempts = λ worker. grind (arith, nat_tests);
      seqs = λ slot. grind (arith, nat_tests);
      taken = λ slot is same. grind (arith, nat_tests);
      faults = λ tenant is. grind (arith, nat_tests);
      rows = λ worker apart. grind (arith, nat_tests);
      own_attempts = λ worker apart. grind (arith, nat_tests);
      standing = λ worker apart. grind (arith, nat_tests);
      permissions = λ worker apart. grind (arith, nat_tests);
      stood = λ tenant address worker number old is. grind (arith, nat_tests);
      births = λ slot seq is. grind (arith, nat_tests);
      stays = λ slot seq is. grind (arith, nat_tests);
      stays_not = λ slot seq is apart. grind (arith, nat_tests);
      fault_decided = λ slot seq is. grind (arith, nat_tests);
      ready = λ slot seq was is. grind (arith, nat_tests);
      was_open = λ slot seq was is. grind (arith, nat_tests);
      is_made = λ slot seq was. grind (arith, nat_tests);
      sealed = λ slot seq was. grind (arith, nat_tests);
      done = λ slot seq was. grind (arith, nat_tests);
      refused = λ slot seq entry value was. grind (arith, nat_tests);
      canceled = λ slot seq entry value was. grind (arith, nat_tests);
      drafts = λ slot seq is apart was. grind (arith, nat_tests);
      filled = λ slot is claimed apart was same. grind (arith, nat_tests, guard.draft, guard.own);
      touched = λ slot seq address was is. grind (arith, nat_tests);
      was_acquired = λ slot seq address was is. grind (arith, nat_tests);
      acquired = λ slot seq address was is kept. grind (arith, nat_tests);
      was_released = λ slot seq address was. grind (arith, nat_tests);
    }

pub count_lets_rely : (config : Config) (state : State) (mover : ℕ) (own : ℕ) (many : ℕ) → Guard config state mover (FillCount own many) → Memory config state → Rely mover state (made state mover (FillCount own many))
count_lets_rely config state mover own many guard memory =
    record {
      attempts = λ worker. grind (arith, nat_tests);
      seqs = λ slot. grind (arith, nat_tests);
      taken = λ slot is same. grind (arith, nat_tests);
      faults = λ tenant is. grind (arith, nat_tests);
      rows = λ worker apart. grind (arith, nat_tests);
      own_attempts = λ worker apart. grind (arith, nat_tests);
      standing = λ worker apart. grind (arith, nat_tests);
      permissions = λ worker apart. grind (arith, nat_tests);
      stood = λ tenant address worker number old is. grind (arith, nat_tests);
      births = λ slot seq is. grind (arith, nat_tests);
      stays = λ slot seq is. grind (arith, nat_tests);
      stays_not = λ slot seq is apart. grind (arith, nat_tests);
      fault_decided = λ slot seq is. grind (arith, nat_tests);
      ready = λ slot seq was is. grind (arith, nat_tests);
      was_open = λ slot seq was is. grind (arith, nat_tests);
      is_made = λ slot seq was. grind (arith, nat_tests);
      sealed = λ slot seq was. grind (arith, nat_tests);
      done = λ slot seq was. grind (arith, nat_tests);
      refused = λ slot seq entry value was. grind (arith, nat_tests);
      canceled = λ slot seq entry value was. grind (arith, nat_tests);
      drafts = λ slot seq is apart was. grind (arith, nat_tests);
      filled = λ slot is claimed apart was same. grind (arith, nat_tests, guard.draft.draft, guard.draft.own);
      touched = λ slot seq address was is. grind (arith, nat_tests);
      was_acquired = λ slot seq address was is. grind (arith, nat_tests);
      acquired = λ slot seq address was is kept. grind (arith, nat_tests);
      was_released = λ slot seq address was. grind (arith, nat_tests);
    }

pub addr_lets_rely : (config : Config) (state : State) (mover : ℕ) (own : ℕ) (entry_there : ℕ) (filled : ℕ) → Guard config state mover (FillAddr own entry_there filled) → Memory config state → Rely mover state (made state mover (FillAddr own entry_there filled))
addr_lets_rely config state mover own entry_there filled guard memory =
    record {
      attempts = λ worker. grind (arith, nat_tests);
      seqs = λ slot. grind (arith, nat_tests);
      taken = λ slot is same. grind (arith, nat_tests);
      faults = λ tenant is. grind (arith, nat_tests);
      rows = λ worker apart. grind (arith, nat_tests);
      own_attempts = λ worker apart. grind (arith, nat_tests);
      standing = λ worker apart. grind (arith, nat_tests);
      permissions = λ worker apart. grind (arith, nat_tests);
      stood = λ tenant address worker number old is. grind (arith, nat_tests);
      births = λ slot seq is. grind (arith, nat_tests);
      stays = λ slot seq is. grind (arith, nat_tests);
      stays_not = λ slot seq is apart. grind (arith, nat_tests);
      fault_decided = λ slot seq is. grind (arith, nat_tests);
      ready = λ slot seq was is. grind (arith, nat_tests);
      was_open = λ slot seq was is. grind (arith, nat_tests);
      is_made = λ slot seq was. grind (arith, nat_tests);
      sealed = λ slot seq was. grind (arith, nat_tests);
      done = λ slot seq was. grind (arith, nat_tests);
      refused = λ slot seq entry value was. grind (arith, nat_tests);
      canceled = λ slot seq entry value was. grind (arith, nat_tests);
      drafts = λ slot seq is apart was. grind (arith, nat_tests);
      filled = λ slot is claimed apart was same. grind (arith, nat_tests, guard.draft.draft, guard.draft.own);
      touched = λ slot seq address was is. grind (arith, nat_tests);
      was_acquired = λ slot seq address was is. grind (arith, nat_tests);
      acquired = λ slot seq address was is kept. grind (arith, nat_tests);
      was_released = λ slot seq address was. grind (arith, nat_tests);
    }

pub expected_lets_rely : (config : Config) (state : State) (mover : ℕ) (own : ℕ) (entry_there : ℕ) (filled : ℕ) → Guard config state mover (FillExpected own entry_there filled) → Memory config state → Rely mover state (made state mover (FillExpected own entry_there filled))
expected_lets_rely config state mover own entry_there filled guard memory =
    record {
      attempts = λ worker. grind (arith, nat_tests);
      seqs = λ slot. grind (arith, nat_tests);
      taken = λ slot is same. grind (arith, nat_tests);
      faults = λ tenant is. grind (arith, nat_tests);
      rows = λ worker apart. grind (arith, nat_tests);
      own_attempts = λ worker apart. grind (arith, nat_tests);
      standing = λ worker apart. grind (arith, nat_tests);
      permissions = λ worker apart. grind (arith, nat_tests);
      stood = λ tenant address worker number old is. grind (arith, nat_tests);
      births = λ slot seq is. grind (arith, nat_tests);
      stays = λ slot seq is. grind (arith, nat_tests);
      stays_not = λ slot seq is apart. grind (arith, nat_tests);
      fault_decided = λ slot seq is. grind (arith, nat_tests);
      ready = λ slot seq was is. grind (arith, nat_tests);
      was_open = λ slot seq was is. grind (arith, nat_tests);
      is_made = λ slot seq was. grind (arith, nat_tests);
      sealed = λ slot seq was. grind (arith, nat_tests);
      done = λ slot seq was. grind (arith, nat_tests);
      refused = λ slot seq entry value was. grind (arith, nat_tests);
      canceled = λ slot seq entry value was. grind (arith, nat_tests);
      drafts = λ slot seq is apart was. grind (arith, nat_tests);
      filled = λ slot is claimed apart was same. grind (arith, nat_tests, guard.draft.draft, guard.draft.own);
      touched = λ slot seq address was is. grind (arith, nat_tests);
      was_acquired = λ slot seq address was is. grind (arith, nat_tests);
      acquired = λ slot seq address was is kept. grind (arith, nat_tests);
      was_released = λ slot seq address was. grind (arith, nat_tests);
    }

pub new_lets_rely : (config : Config) (state : State) (mover : ℕ) (own : ℕ) (entry_there : ℕ) (filled : ℕ) → Guard config state mover (FillNew own entry_there filled) → Memory config state → Rely mover state (made state mover (FillNew own entry_there filled))
new_lets_rely config state mover own entry_there filled guard memory =
    record {
      attempts = λ worker. grind (arith, nat_tests);
      seqs = λ slot. grind (arith, nat_tests);
      taken = λ slot is same. grind (arith, nat_tests);
      faults = λ tenant is. grind (arith, nat_tests);
      rows = λ worker apart. grind (arith, nat_tests);
      own_attempts = λ worker apart. grind (arith, nat_tests);
      standing = λ worker apart. grind (arith, nat_tests);
      permissions = λ worker apart. grind (arith, nat_tests);
      stood = λ tenant address worker number old is. grind (arith, nat_tests);
      births = λ slot seq is. grind (arith, nat_tests);
      stays = λ slot seq is. grind (arith, nat_tests);
      stays_not = λ slot seq is apart. grind (arith, nat_tests);
      fault_decided = λ slot seq is. grind (arith, nat_tests);
      ready = λ slot seq was is. grind (arith, nat_tests);
      was_open = λ slot seq was is. grind (arith, nat_tests);
      is_made = λ slot seq was. grind (arith, nat_tests);
      sealed = λ slot seq was. grind (arith, nat_tests);
      done = λ slot seq was. grind (arith, nat_tests);
      refused = λ slot seq entry value was. grind (arith, nat_tests);
      canceled = λ slot seq entry value was. grind (arith, nat_tests);
      drafts = λ slot seq is apart was. grind (arith, nat_tests);
      filled = λ slot is claimed apart was same. grind (arith, nat_tests, guard.draft.draft, guard.draft.own);
      touched = λ slot seq address was is. grind (arith, nat_tests);
      was_acquired = λ slot seq address was is. grind (arith, nat_tests);
      acquired = λ slot seq address was is kept. grind (arith, nat_tests);
      was_released = λ slot seq address was. grind (arith, nat_tests);
    }

pub row_lets_rely : (config : Config) (state : State) (mover : ℕ) (row : Row) → Guard config state mover (SetRow row) → Memory config state → Rely mover state (made state mover (SetRow row))
row_lets_rely config state mover row guard memory =
    record {
      attempts = λ worker. grind (arith, nat_tests);
      seqs = λ slot. grind (arith, nat_tests);
      taken = λ slot is same. grind (arith, nat_tests);
      faults = λ tenant is. grind (arith, nat_tests);
      rows = λ worker apart. grind (arith, nat_tests);
      own_attempts = λ worker apart. grind (arith, nat_tests);
      standing = λ worker apart. grind (arith, nat_tests);
      permissions = λ worker apart. grind (arith, nat_tests);
      stood = λ tenant address worker number old is. grind (arith, nat_tests, memory.references.planted tenant address worker number, guard.rests);
      births = λ slot seq is. grind (arith, nat_tests);
      stays = λ slot seq is. grind (arith, nat_tests);
      stays_not = λ slot seq is apart. grind (arith, nat_tests);
      fault_decided = λ slot seq is. grind (arith, nat_tests);
      ready = λ slot seq was is. grind (arith, nat_tests);
      was_open = λ slot seq was is. grind (arith, nat_tests);
      is_made = λ slot seq was. grind (arith, nat_tests);
      sealed = λ slot seq was. grind (arith, nat_tests);
      done = λ slot seq was. grind (arith, nat_tests);
      refused = λ slot seq entry value was. grind (arith, nat_tests);
      canceled = λ slot seq entry value was. grind (arith, nat_tests);
      drafts = λ slot seq is apart was. grind (arith, nat_tests);
      filled = λ slot is claimed apart was same. grind (arith, nat_tests);
      touched = λ slot seq address was is. grind (arith, nat_tests);
      was_acquired = λ slot seq address was is. grind (arith, nat_tests);
      acquired = λ slot seq address was is kept. grind (arith, nat_tests);
      was_released = λ slot seq address was. grind (arith, nat_tests);
    }

pub skip_number_lets_rely : (config : Config) (state : State) (mover : ℕ) (given_up : ℕ) → Guard config state mover (SkipNumber given_up) → Memory config state → Rely mover state (made state mover (SkipNumber given_up))
skip_number_lets_rely config state mover given_up guard memory =
    record {
      attempts = λ worker. grind (arith, nat_tests, guard);
      seqs = λ slot. grind (arith, nat_tests, guard);
      taken = λ slot is same. grind (arith, nat_tests, guard);
      faults = λ tenant is. grind (arith, nat_tests, guard);
      rows = λ worker apart. grind (arith, nat_tests, guard);
      own_attempts = λ worker apart. grind (arith, nat_tests, guard);
      standing = λ worker apart. grind (arith, nat_tests, guard);
      permissions = λ worker apart. grind (arith, nat_tests, guard);
      stood = λ tenant address worker number old is. grind (arith, nat_tests, guard);
      births = λ slot seq is. grind (arith, nat_tests, guard);
      stays = λ slot seq is. grind (arith, nat_tests, guard);
      stays_not = λ slot seq is apart. grind (arith, nat_tests, guard);
      fault_decided = λ slot seq is. grind (arith, nat_tests, guard);
      ready = λ slot seq was is. grind (arith, nat_tests, guard);
      was_open = λ slot seq was is. grind (arith, nat_tests, guard);
      is_made = λ slot seq was. grind (arith, nat_tests, guard);
      sealed = λ slot seq was. grind (arith, nat_tests, guard);
      done = λ slot seq was. grind (arith, nat_tests, guard);
      refused = λ slot seq entry value was. grind (arith, nat_tests, guard);
      canceled = λ slot seq entry value was. grind (arith, nat_tests, guard);
      drafts = λ slot seq is apart was. grind (arith, nat_tests, guard);
      filled = λ slot is claimed apart was same. grind (arith, nat_tests, guard);
      touched = λ slot seq address was is. grind (arith, nat_tests, guard);
      was_acquired = λ slot seq address was is. grind (arith, nat_tests, guard);
      acquired = λ slot seq address was is kept. grind (arith, nat_tests, guard);
      was_released = λ slot seq address was. grind (arith, nat_tests, guard);
    }

pub leave_pin_lets_rely : (config : Config) (state : State) (mover : ℕ) (target : Slot) → Guard config state mover (LeavePin target) → Memory config state → Rely mover state (made state mover (LeavePin target))
leave_pin_lets_rely config state mover target guard memory =
    record {
      attempts = λ worker. grind (arith, nat_tests);
      seqs = λ slot. grind (arith, nat_tests);
      taken = λ slot is same. grind (arith, nat_tests);
      faults = λ tenant is. grind (arith, nat_tests);
      rows = λ worker apart. grind (arith, nat_tests);
      own_attempts = λ worker apart. grind (arith, nat_tests);
      standing = λ worker apart. grind (arith, nat_tests);
      permissions = λ worker apart. grind (arith, nat_tests);
      stood = λ tenant address worker number old is. grind (arith, nat_tests);
      births = λ slot seq is. grind (arith, nat_tests);
      stays = λ slot seq is. grind (arith, nat_tests);
      stays_not = λ slot seq is apart. grind (arith, nat_tests, guard);
      fault_decided = λ slot seq is. grind (arith, nat_tests);
      ready = λ slot seq was is. grind (arith, nat_tests);
      was_open = λ slot seq was is. grind (arith, nat_tests);
      is_made = λ slot seq was. grind (arith, nat_tests);
      sealed = λ slot seq was. grind (arith, nat_tests);
      done = λ slot seq was. grind (arith, nat_tests);
      refused = λ slot seq entry value was. grind (arith, nat_tests);
      canceled = λ slot seq entry value was. grind (arith, nat_tests);
      drafts = λ slot seq is apart was. grind (arith, nat_tests);
      filled = λ slot is claimed apart was same. grind (arith, nat_tests);
      touched = λ slot seq address was is. grind (arith, nat_tests);
      was_acquired = λ slot seq address was is. grind (arith, nat_tests);
      acquired = λ slot seq address was is kept. grind (arith, nat_tests);
      was_released = λ slot seq address was. grind (arith, nat_tests);
    }

pub decide_fault_lets_rely : (config : Config) (state : State) (mover : ℕ) (target : Slot) → Guard config state mover (DecideFault target) → Memory config state → Rely mover state (made state mover (DecideFault target))
decide_fault_lets_rely config state mover target guard memory =
    record {
      attempts = λ worker. grind (arith, nat_tests);
      seqs = λ slot. grind (arith, nat_tests);
      taken = λ slot is same. grind (arith, nat_tests);
      faults = λ tenant is. grind (arith, nat_tests);
      rows = λ worker apart. grind (arith, nat_tests);
      own_attempts = λ worker apart. grind (arith, nat_tests);
      standing = λ worker apart. grind (arith, nat_tests);
      permissions = λ worker apart. grind (arith, nat_tests);
      stood = λ tenant address worker number old is. grind (arith, nat_tests);
      births = λ slot seq is. grind (arith, nat_tests);
      stays = λ slot seq is. grind (arith, nat_tests);
      stays_not = λ slot seq is apart. grind (arith, nat_tests);
      fault_decided = λ slot seq is. grind (arith, nat_tests);
      ready = λ slot seq was is. grind (arith, nat_tests);
      was_open = λ slot seq was is. grind (arith, nat_tests);
      is_made = λ slot seq was. grind (arith, nat_tests);
      sealed = λ slot seq was. grind (arith, nat_tests);
      done = λ slot seq was. grind (arith, nat_tests);
      refused = λ slot seq entry value was. grind (arith, nat_tests);
      canceled = λ slot seq entry value was. grind (arith, nat_tests);
      drafts = λ slot seq is apart was. grind (arith, nat_tests);
      filled = λ slot is claimed apart was same. grind (arith, nat_tests);
      touched = λ slot seq address was is. grind (arith, nat_tests);
      was_acquired = λ slot seq address was is. grind (arith, nat_tests);
      acquired = λ slot seq address was is kept. grind (arith, nat_tests);
      was_released = λ slot seq address was. grind (arith, nat_tests);
    }

pub set_intent_lets_rely : (config : Config) (state : State) (mover : ℕ) (standing : StandingAttempt) (permission : HoldPermission) → Guard config state mover (SetIntent standing permission) → Memory config state → Rely mover state (made state mover (SetIntent standing permission))
set_intent_lets_rely config state mover standing permission guard memory =
    record {
      attempts = λ worker. grind (arith, nat_tests);
      seqs = λ slot. grind (arith, nat_tests);
      taken = λ slot is same. grind (arith, nat_tests);
      faults = λ tenant is. grind (arith, nat_tests);
      rows = λ worker apart. grind (arith, nat_tests);
      own_attempts = λ worker apart. grind (arith, nat_tests);
      standing = λ worker apart. grind (arith, nat_tests);
      permissions = λ worker apart. grind (arith, nat_tests);
      stood = λ tenant address worker number old is. grind (arith, nat_tests);
      births = λ slot seq is. grind (arith, nat_tests);
      stays = λ slot seq is. grind (arith, nat_tests);
      stays_not = λ slot seq is apart. grind (arith, nat_tests);
      fault_decided = λ slot seq is. grind (arith, nat_tests);
      ready = λ slot seq was is. grind (arith, nat_tests);
      was_open = λ slot seq was is. grind (arith, nat_tests);
      is_made = λ slot seq was. grind (arith, nat_tests);
      sealed = λ slot seq was. grind (arith, nat_tests);
      done = λ slot seq was. grind (arith, nat_tests);
      refused = λ slot seq entry value was. grind (arith, nat_tests);
      canceled = λ slot seq entry value was. grind (arith, nat_tests);
      drafts = λ slot seq is apart was. grind (arith, nat_tests);
      filled = λ slot is claimed apart was same. grind (arith, nat_tests);
      touched = λ slot seq address was is. grind (arith, nat_tests);
      was_acquired = λ slot seq address was is. grind (arith, nat_tests);
      acquired = λ slot seq address was is kept. grind (arith, nat_tests);
      was_released = λ slot seq address was. grind (arith, nat_tests);
    }
