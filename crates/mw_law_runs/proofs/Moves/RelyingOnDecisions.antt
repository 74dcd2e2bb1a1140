-- Giving a change another status keeps what other workers rely on (`Rely`). Used by: Relied.
use Rattle.std.proofs.Common.{ℕ, arith}
use Rattle.std.proofs.lemmas.Bool.Decides.{nat_tests}
use Rattle.mw_actor.specs.declared.points.Slot.{Slot}
use Rattle.mw_world.specs.declared.config.Config.{Config}
use Rattle.mw_world.specs.Definition.State.{State}
use Rattle.mw_law_runs.specs.Moves.Moves.{Prepare, SayYes, SayNo, Seal, Settle, Cancel, made}
use Rattle.mw_law_runs.specs.Moves.Guards.{Guard}
use Rattle.mw_law_runs.specs.Moves.Memory.{Memory}
use Rattle.mw_law_runs.specs.Moves.Rely.{Rely}

pub prepare_lets_rely : (config : Config) (state : State) (mover : ℕ) (target : Slot) → Guard config state mover (Prepare target) → Memory config state → Rely mover state (made state mover (Prepare target))
prepare_lets_rely config state mover target guard memory =
    record {
      attempts = λ worker. grind (arith, nat_tests, guard.live.taken, guard.live.seq, guard.draft);
      seqs = λ slot. grind (arith, nat_tests, guard.live.taken, guard.live.seq, guard.draft);
      taken = λ slot is same. grind (arith, nat_tests, guard.live.taken, guard.live.seq, guard.draft);
      faults = λ tenant is. grind (arith, nat_tests, guard.live.taken, guard.live.seq, guard.draft);
      rows = λ worker apart. grind (arith, nat_tests, guard.live.taken, guard.live.seq, guard.draft);
      own_attempts = λ worker apart. grind (arith, nat_tests, guard.live.taken, guard.live.seq, guard.draft);
      standing = λ worker apart. grind (arith, nat_tests, guard.live.taken, guard.live.seq, guard.draft);
      permissions = λ worker apart. grind (arith, nat_tests, guard.live.taken, guard.live.seq, guard.draft);
      stood = λ tenant address worker number old is. grind (arith, nat_tests, guard.live.taken, guard.live.seq, guard.draft);
      births = λ slot seq is. grind (arith, nat_tests, guard.live.taken, guard.live.seq, guard.draft);
      stays = λ slot seq is. grind (arith, nat_tests, guard.live.taken, guard.live.seq, guard.draft);
      stays_not = λ slot seq is apart. grind (arith, nat_tests, guard.live.taken, guard.live.seq, guard.draft);
      fault_decided = λ slot seq is. grind (arith, nat_tests, guard.live.taken, guard.live.seq, guard.draft);
      ready = λ slot seq was is. grind (arith, nat_tests, guard.live.taken, guard.live.seq, guard.draft);
      was_open = λ slot seq was is. grind (arith, nat_tests, guard.live.taken, guard.live.seq, guard.draft);
      is_made = λ slot seq was. grind (arith, nat_tests, guard.live.taken, guard.live.seq, guard.draft);
      sealed = λ slot seq was. grind (arith, nat_tests, guard.live.taken, guard.live.seq, guard.draft);
      done = λ slot seq was. grind (arith, nat_tests, guard.live.taken, guard.live.seq, guard.draft);
      refused = λ slot seq entry value was. grind (arith, nat_tests, guard.live.taken, guard.live.seq, guard.draft);
      canceled = λ slot seq entry value was. grind (arith, nat_tests, guard.live.taken, guard.live.seq, guard.draft);
      drafts = λ slot seq is apart was. grind (arith, nat_tests, guard.live.taken, guard.live.seq, guard.draft, guard.own);
      filled = λ slot is claimed apart was same. grind (arith, nat_tests, guard.live.taken, guard.live.seq, guard.draft, guard.own);
      touched = λ slot seq address was is. grind (arith, nat_tests, guard.live.taken, guard.live.seq, guard.draft);
      was_acquired = λ slot seq address was is. grind (arith, nat_tests, guard.live.taken, guard.live.seq, guard.draft);
      acquired = λ slot seq address was is kept. grind (arith, nat_tests, guard.live.taken, guard.live.seq, guard.draft);
      was_released = λ slot seq address was. grind (arith, nat_tests, guard.live.taken, guard.live.seq, guard.draft);
    }

pub say_yes_lets_rely : (config : Config) (state : State) (mover : ℕ) (target : Slot) → Guard config state mover (SayYes target) → Memory config state → Rely mover state (made state mover (SayYes target))
say_yes_lets_rely config state mover target guard memory =
    record {
      attempts = λ worker. grind (arith, nat_tests, guard.live.taken, guard.live.seq, guard.is_open);
      seqs = λ slot. grind (arith, nat_tests, guard.live.taken, guard.live.seq, guard.is_open);
      taken = λ slot is same. grind (arith, nat_tests, guard.live.taken, guard.live.seq, guard.is_open);
      faults = λ tenant is. grind (arith, nat_tests, guard.live.taken, guard.live.seq, guard.is_open);
      rows = λ worker apart. grind (arith, nat_tests, guard.live.taken, guard.live.seq, guard.is_open);
      own_attempts = λ worker apart. grind (arith, nat_tests, guard.live.taken, guard.live.seq, guard.is_open);
      standing = λ worker apart. grind (arith, nat_tests, guard.live.taken, guard.live.seq, guard.is_open);
      permissions = λ worker apart. grind (arith, nat_tests, guard.live.taken, guard.live.seq, guard.is_open);
      stood = λ tenant address worker number old is. grind (arith, nat_tests, guard.live.taken, guard.live.seq, guard.is_open);
      births = λ slot seq is. grind (arith, nat_tests, guard.live.taken, guard.live.seq, guard.is_open);
      stays = λ slot seq is. grind (arith, nat_tests, guard.live.taken, guard.live.seq, guard.is_open);
      stays_not = λ slot seq is apart. grind (arith, nat_tests, guard.live.taken, guard.live.seq, guard.is_open);
      fault_decided = λ slot seq is. grind (arith, nat_tests, guard.live.taken, guard.live.seq, guard.is_open);
      ready = λ slot seq was is. grind (arith, nat_tests, guard.live.taken, guard.live.seq, guard.is_open);
      was_open = λ slot seq was is. grind (arith, nat_tests, guard.live.taken, guard.live.seq, guard.is_open);
      is_made = λ slot seq was. grind (arith, nat_tests, guard.live.taken, guard.live.seq, guard.is_open);
      sealed = λ slot seq was. grind (arith, nat_tests, guard.live.taken, guard.live.seq, guard.is_open);
      done = λ slot seq was. grind (arith, nat_tests, guard.live.taken, guard.live.seq, guard.is_open);
      refused = λ slot seq entry value was. grind (arith, nat_tests, guard.live.taken, guard.live.seq, guard.is_open);
      canceled = λ slot seq entry value was. grind (arith, nat_tests, guard.live.taken, guard.live.seq, guard.is_open);
      drafts = λ slot seq is apart was. grind (arith, nat_tests, guard.live.taken, guard.live.seq, guard.is_open);
      filled = λ slot is claimed apart was same. grind (arith, nat_tests, guard.live.taken, guard.live.seq, guard.is_open);
      touched = λ slot seq address was is. grind (arith, nat_tests, guard.live.taken, guard.live.seq, guard.is_open);
      was_acquired = λ slot seq address was is. grind (arith, nat_tests, guard.live.taken, guard.live.seq, guard.is_open);
      acquired = λ slot seq address was is kept. grind (arith, nat_tests, guard.live.taken, guard.live.seq, guard.is_open);
      was_released = λ slot seq address was. grind (arith, nat_tests, guard.live.taken, guard.live.seq, guard.is_open);
    }

pub say_no_lets_rely : (config : Config) (state : State) (mover : ℕ) (target : Slot) (at_entry : ℕ) (found : ℕ) → Guard config state mover (SayNo target at_entry found) → Memory config state → Rely mover state (made state mover (SayNo target at_entry found))
say_no_lets_rely config state mover target at_entry found guard memory =
    record {
      attempts = λ worker. grind (arith, nat_tests, guard.live.taken, guard.live.seq, guard.is_open);
      seqs = λ slot. grind (arith, nat_tests, guard.live.taken, guard.live.seq, guard.is_open);
      taken = λ slot is same. grind (arith, nat_tests, guard.live.taken, guard.live.seq, guard.is_open);
      faults = λ tenant is. grind (arith, nat_tests, guard.live.taken, guard.live.seq, guard.is_open);
      rows = λ worker apart. grind (arith, nat_tests, guard.live.taken, guard.live.seq, guard.is_open);
      own_attempts = λ worker apart. grind (arith, nat_tests, guard.live.taken, guard.live.seq, guard.is_open);
      standing = λ worker apart. grind (arith, nat_tests, guard.live.taken, guard.live.seq, guard.is_open);
      permissions = λ worker apart. grind (arith, nat_tests, guard.live.taken, guard.live.seq, guard.is_open);
      stood = λ tenant address worker number old is. grind (arith, nat_tests, guard.live.taken, guard.live.seq, guard.is_open);
      births = λ slot seq is. grind (arith, nat_tests, guard.live.taken, guard.live.seq, guard.is_open);
      stays = λ slot seq is. grind (arith, nat_tests, guard.live.taken, guard.live.seq, guard.is_open);
      stays_not = λ slot seq is apart. grind (arith, nat_tests, guard.live.taken, guard.live.seq, guard.is_open);
      fault_decided = λ slot seq is. grind (arith, nat_tests, guard.live.taken, guard.live.seq, guard.is_open);
      ready = λ slot seq was is. grind (arith, nat_tests, guard.live.taken, guard.live.seq, guard.is_open);
      was_open = λ slot seq was is. grind (arith, nat_tests, guard.live.taken, guard.live.seq, guard.is_open);
      is_made = λ slot seq was. grind (arith, nat_tests, guard.live.taken, guard.live.seq, guard.is_open);
      sealed = λ slot seq was. grind (arith, nat_tests, guard.live.taken, guard.live.seq, guard.is_open);
      done = λ slot seq was. grind (arith, nat_tests, guard.live.taken, guard.live.seq, guard.is_open);
      refused = λ slot seq entry value was. grind (arith, nat_tests, guard.live.taken, guard.live.seq, guard.is_open);
      canceled = λ slot seq entry value was. grind (arith, nat_tests, guard.live.taken, guard.live.seq, guard.is_open);
      drafts = λ slot seq is apart was. grind (arith, nat_tests, guard.live.taken, guard.live.seq, guard.is_open);
      filled = λ slot is claimed apart was same. grind (arith, nat_tests, guard.live.taken, guard.live.seq, guard.is_open);
      touched = λ slot seq address was is. grind (arith, nat_tests, guard.live.taken, guard.live.seq, guard.is_open);
      was_acquired = λ slot seq address was is. grind (arith, nat_tests, guard.live.taken, guard.live.seq, guard.is_open);
      acquired = λ slot seq address was is kept. grind (arith, nat_tests, guard.live.taken, guard.live.seq, guard.is_open);
      was_released = λ slot seq address was. grind (arith, nat_tests, guard.live.taken, guard.live.seq, guard.is_open);
    }

pub seal_lets_rely : (config : Config) (state : State) (mover : ℕ) (target : Slot) → Guard config state mover (Seal target) → Memory config state → Rely mover state (made state mover (Seal target))
seal_lets_rely config state mover target guard memory =
    record {
      attempts = λ worker. grind (arith, nat_tests, guard.live.taken, guard.live.seq, guard.decided);
      seqs = λ slot. grind (arith, nat_tests, guard.live.taken, guard.live.seq, guard.decided);
      taken = λ slot is same. grind (arith, nat_tests, guard.live.taken, guard.live.seq, guard.decided);
      faults = λ tenant is. grind (arith, nat_tests, guard.live.taken, guard.live.seq, guard.decided);
      rows = λ worker apart. grind (arith, nat_tests, guard.live.taken, guard.live.seq, guard.decided);
      own_attempts = λ worker apart. grind (arith, nat_tests, guard.live.taken, guard.live.seq, guard.decided);
      standing = λ worker apart. grind (arith, nat_tests, guard.live.taken, guard.live.seq, guard.decided);
      permissions = λ worker apart. grind (arith, nat_tests, guard.live.taken, guard.live.seq, guard.decided);
      stood = λ tenant address worker number old is. grind (arith, nat_tests, guard.live.taken, guard.live.seq, guard.decided);
      births = λ slot seq is. grind (arith, nat_tests, guard.live.taken, guard.live.seq, guard.decided);
      stays = λ slot seq is. grind (arith, nat_tests, guard.live.taken, guard.live.seq, guard.decided);
      stays_not = λ slot seq is apart. grind (arith, nat_tests, guard.live.taken, guard.live.seq, guard.decided);
      fault_decided = λ slot seq is. grind (arith, nat_tests, guard.live.taken, guard.live.seq, guard.decided);
      ready = λ slot seq was is. grind (arith, nat_tests, guard.live.taken, guard.live.seq, guard.decided);
      was_open = λ slot seq was is. grind (arith, nat_tests, guard.live.taken, guard.live.seq, guard.decided);
      is_made = λ slot seq was. grind (arith, nat_tests, guard.live.taken, guard.live.seq, guard.decided);
      sealed = λ slot seq was. grind (arith, nat_tests, guard.live.taken, guard.live.seq, guard.decided);
      done = λ slot seq was. grind (arith, nat_tests, guard.live.taken, guard.live.seq, guard.decided);
      refused = λ slot seq entry value was. grind (arith, nat_tests, guard.live.taken, guard.live.seq, guard.decided);
      canceled = λ slot seq entry value was. grind (arith, nat_tests, guard.live.taken, guard.live.seq, guard.decided);
      drafts = λ slot seq is apart was. grind (arith, nat_tests, guard.live.taken, guard.live.seq, guard.decided);
      filled = λ slot is claimed apart was same. grind (arith, nat_tests, guard.live.taken, guard.live.seq, guard.decided);
      touched = λ slot seq address was is. grind (arith, nat_tests, guard.live.taken, guard.live.seq, guard.decided);
      was_acquired = λ slot seq address was is. grind (arith, nat_tests, guard.live.taken, guard.live.seq, guard.decided);
      acquired = λ slot seq address was is kept. grind (arith, nat_tests, guard.live.taken, guard.live.seq, guard.decided);
      was_released = λ slot seq address was. grind (arith, nat_tests, guard.live.taken, guard.live.seq, guard.decided);
    }

pub settle_lets_rely : (config : Config) (state : State) (mover : ℕ) (target : Slot) → Guard config state mover (Settle target) → Memory config state → Rely mover state (made state mover (Settle target))
settle_lets_rely config state mover target guard memory =
    record {
      attempts = λ worker. grind (arith, nat_tests, guard.live.taken, guard.live.seq, guard.is_made);
      seqs = λ slot. grind (arith, nat_tests, guard.live.taken, guard.live.seq, guard.is_made);
      taken = λ slot is same. grind (arith, nat_tests, guard.live.taken, guard.live.seq, guard.is_made);
      faults = λ tenant is. grind (arith, nat_tests, guard.live.taken, guard.live.seq, guard.is_made);
      rows = λ worker apart. grind (arith, nat_tests, guard.live.taken, guard.live.seq, guard.is_made);
      own_attempts = λ worker apart. grind (arith, nat_tests, guard.live.taken, guard.live.seq, guard.is_made);
      standing = λ worker apart. grind (arith, nat_tests, guard.live.taken, guard.live.seq, guard.is_made);
      permissions = λ worker apart. grind (arith, nat_tests, guard.live.taken, guard.live.seq, guard.is_made);
      stood = λ tenant address worker number old is. grind (arith, nat_tests, guard.live.taken, guard.live.seq, guard.is_made);
      births = λ slot seq is. grind (arith, nat_tests, guard.live.taken, guard.live.seq, guard.is_made);
      stays = λ slot seq is. grind (arith, nat_tests, guard.live.taken, guard.live.seq, guard.is_made);
      stays_not = λ slot seq is apart. grind (arith, nat_tests, guard.live.taken, guard.live.seq, guard.is_made);
      fault_decided = λ slot seq is. grind (arith, nat_tests, guard.live.taken, guard.live.seq, guard.is_made);
      ready = λ slot seq was is. grind (arith, nat_tests, guard.live.taken, guard.live.seq, guard.is_made);
      was_open = λ slot seq was is. grind (arith, nat_tests, guard.live.taken, guard.live.seq, guard.is_made);
      is_made = λ slot seq was. grind (arith, nat_tests, guard.live.taken, guard.live.seq, guard.is_made);
      sealed = λ slot seq was. grind (arith, nat_tests, guard.live.taken, guard.live.seq, guard.is_made);
      done = λ slot seq was. grind (arith, nat_tests, guard.live.taken, guard.live.seq, guard.is_made);
      refused = λ slot seq entry value was. grind (arith, nat_tests, guard.live.taken, guard.live.seq, guard.is_made);
      canceled = λ slot seq entry value was. grind (arith, nat_tests, guard.live.taken, guard.live.seq, guard.is_made);
      drafts = λ slot seq is apart was. grind (arith, nat_tests, guard.live.taken, guard.live.seq, guard.is_made);
      filled = λ slot is claimed apart was same. grind (arith, nat_tests, guard.live.taken, guard.live.seq, guard.is_made);
      touched = λ slot seq address was is. grind (arith, nat_tests, guard.live.taken, guard.live.seq, guard.is_made);
      was_acquired = λ slot seq address was is. grind (arith, nat_tests, guard.live.taken, guard.live.seq, guard.is_made);
      acquired = λ slot seq address was is kept. grind (arith, nat_tests, guard.live.taken, guard.live.seq, guard.is_made);
      was_released = λ slot seq address was. grind (arith, nat_tests, guard.live.taken, guard.live.seq, guard.is_made);
    }

pub cancel_lets_rely : (config : Config) (state : State) (mover : ℕ) (target : Slot) (at_entry : ℕ) (found : ℕ) → Guard config state mover (Cancel target at_entry found) → Memory config state → Rely mover state (made state mover (Cancel target at_entry found))
cancel_lets_rely config state mover target at_entry found guard memory =
    record {
      attempts = λ worker. grind (arith, nat_tests, guard.live.taken, guard.live.seq, guard.refused);
      seqs = λ slot. grind (arith, nat_tests, guard.live.taken, guard.live.seq, guard.refused);
      taken = λ slot is same. grind (arith, nat_tests, guard.live.taken, guard.live.seq, guard.refused);
      faults = λ tenant is. grind (arith, nat_tests, guard.live.taken, guard.live.seq, guard.refused);
      rows = λ worker apart. grind (arith, nat_tests, guard.live.taken, guard.live.seq, guard.refused);
      own_attempts = λ worker apart. grind (arith, nat_tests, guard.live.taken, guard.live.seq, guard.refused);
      standing = λ worker apart. grind (arith, nat_tests, guard.live.taken, guard.live.seq, guard.refused);
      permissions = λ worker apart. grind (arith, nat_tests, guard.live.taken, guard.live.seq, guard.refused);
      stood = λ tenant address worker number old is. grind (arith, nat_tests, guard.live.taken, guard.live.seq, guard.refused);
      births = λ slot seq is. grind (arith, nat_tests, guard.live.taken, guard.live.seq, guard.refused);
      stays = λ slot seq is. grind (arith, nat_tests, guard.live.taken, guard.live.seq, guard.refused);
      stays_not = λ slot seq is apart. grind (arith, nat_tests, guard.live.taken, guard.live.seq, guard.refused);
      fault_decided = λ slot seq is. grind (arith, nat_tests, guard.live.taken, guard.live.seq, guard.refused);
      ready = λ slot seq was is. grind (arith, nat_tests, guard.live.taken, guard.live.seq, guard.refused);
      was_open = λ slot seq was is. grind (arith, nat_tests, guard.live.taken, guard.live.seq, guard.refused);
      is_made = λ slot seq was. grind (arith, nat_tests, guard.live.taken, guard.live.seq, guard.refused);
      sealed = λ slot seq was. grind (arith, nat_tests, guard.live.taken, guard.live.seq, guard.refused);
      done = λ slot seq was. grind (arith, nat_tests, guard.live.taken, guard.live.seq, guard.refused);
      refused = λ slot seq entry value was. grind (arith, nat_tests, guard.live.taken, guard.live.seq, guard.refused);
      canceled = λ slot seq entry value was. grind (arith, nat_tests, guard.live.taken, guard.live.seq, guard.refused);
      drafts = λ slot seq is apart was. grind (arith, nat_tests, guard.live.taken, guard.live.seq, guard.refused);
      filled = λ slot is claimed apart was same. grind (arith, nat_tests, guard.live.taken, guard.live.seq, guard.refused);
      touched = λ slot seq address was is. grind (arith, nat_tests, guard.live.taken, guard.live.seq, guard.refused);
      was_acquired = λ slot seq address was is. grind (arith, nat_tests, guard.live.taken, guard.live.seq, guard.refused);
      acquired = λ slot seq address was is kept. grind (arith, nat_tests, guard.live.taken, guard.live.seq, guard.refused);
      was_released = λ slot seq address was. grind (arith, nat_tests, guard.live.taken, guard.live.seq, guard.refused);
    }
