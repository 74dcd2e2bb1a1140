-- Claiming, pinning, unpinning and freeing a slot keep what other workers rely on (`Rely`). Used by: Relied.
use Rattle.std.proofs.Common.{ℕ, List, arith}
use Rattle.std.proofs.lemmas.Bool.Decides.{nat_tests}
use Rattle.mw_words.specs.declared.jobs.Entry.{Entry}
use Rattle.mw_words.specs.declared.gates.Gate.{Gate}
use Rattle.mw_actor.specs.declared.points.Slot.{Slot}
use Rattle.mw_world.specs.declared.config.Config.{Config}
use Rattle.mw_world.specs.Definition.State.{State}
use Rattle.mw_law_runs.specs.Moves.Moves.{Claim, Pin, Unpin, Free, made}
use Rattle.mw_law_runs.specs.Moves.Guards.{Guard}
use Rattle.mw_law_runs.specs.Moves.Memory.{Memory}
use Rattle.mw_law_runs.specs.Moves.Rely.{Rely}

pub claim_lets_rely : (config : Config) (state : State) (mover : ℕ) (own : Slot) (gate : Gate) (at_tenant : ℕ) (request : ℕ) (entries : List Entry) → Guard config state mover (Claim own gate at_tenant request entries) → Memory config state → Rely mover state (made state mover (Claim own gate at_tenant request entries))
claim_lets_rely config state mover own gate at_tenant request entries guard memory =
    record {
      attempts = λ worker. grind (arith, nat_tests, guard.was_free, guard.had_number, guard.is_taken, guard.has_number);
      seqs = λ slot. grind (arith, nat_tests, guard.was_free, guard.had_number, guard.is_taken, guard.has_number);
      taken = λ slot is same. grind (arith, nat_tests, guard.was_free, guard.had_number, guard.is_taken, guard.has_number);
      faults = λ tenant is. grind (arith, nat_tests, guard.was_free, guard.had_number, guard.is_taken, guard.has_number);
      rows = λ worker apart. grind (arith, nat_tests, guard.was_free, guard.had_number, guard.is_taken, guard.has_number);
      own_attempts = λ worker apart. grind (arith, nat_tests, guard.was_free, guard.had_number, guard.is_taken, guard.has_number);
      standing = λ worker apart. grind (arith, nat_tests, guard.was_free, guard.had_number, guard.is_taken, guard.has_number);
      permissions = λ worker apart. grind (arith, nat_tests, guard.was_free, guard.had_number, guard.is_taken, guard.has_number);
      stood = λ tenant address worker number old is. grind (arith, nat_tests, guard.was_free, guard.had_number, guard.is_taken, guard.has_number);
      births = λ slot seq is. grind (arith, nat_tests, guard.was_free, guard.had_number, guard.is_taken, guard.has_number, memory.claims.latest slot seq);
      stays = λ slot seq is. grind (arith, nat_tests, guard.was_free, guard.had_number, guard.is_taken, guard.has_number);
      stays_not = λ slot seq is apart. grind (arith, nat_tests, guard.was_free, guard.had_number, guard.is_taken, guard.has_number);
      fault_decided = λ slot seq is. grind (arith, nat_tests, guard.was_free, guard.had_number, guard.is_taken, guard.has_number);
      ready = λ slot seq was is. grind (arith, nat_tests, guard.was_free, guard.had_number, guard.is_taken, guard.has_number);
      was_open = λ slot seq was is. grind (arith, nat_tests, guard.was_free, guard.had_number, guard.is_taken, guard.has_number);
      is_made = λ slot seq was. grind (arith, nat_tests, guard.was_free, guard.had_number, guard.is_taken, guard.has_number);
      sealed = λ slot seq was. grind (arith, nat_tests, guard.was_free, guard.had_number, guard.is_taken, guard.has_number);
      done = λ slot seq was. grind (arith, nat_tests, guard.was_free, guard.had_number, guard.is_taken, guard.has_number);
      refused = λ slot seq entry value was. grind (arith, nat_tests, guard.was_free, guard.had_number, guard.is_taken, guard.has_number);
      canceled = λ slot seq entry value was. grind (arith, nat_tests, guard.was_free, guard.had_number, guard.is_taken, guard.has_number);
      drafts = λ slot seq is apart was. grind (arith, nat_tests, guard.was_free, guard.had_number, guard.is_taken, guard.has_number, memory.claims.latest slot seq);
      filled = λ slot is claimed apart was same. grind (arith, nat_tests, guard.was_free, guard.had_number, guard.is_taken, guard.has_number);
      touched = λ slot seq address was is. grind (arith, nat_tests, guard.was_free, guard.had_number, guard.is_taken, guard.has_number);
      was_acquired = λ slot seq address was is. grind (arith, nat_tests, guard.was_free, guard.had_number, guard.is_taken, guard.has_number);
      acquired = λ slot seq address was is kept. grind (arith, nat_tests, guard.was_free, guard.had_number, guard.is_taken, guard.has_number);
      was_released = λ slot seq address was. grind (arith, nat_tests, guard.was_free, guard.had_number, guard.is_taken, guard.has_number);
    }

pub pin_lets_rely : (config : Config) (state : State) (mover : ℕ) (pinned : ℕ) (gate : Gate) → Guard config state mover (Pin pinned gate) → Memory config state → Rely mover state (made state mover (Pin pinned gate))
pin_lets_rely config state mover pinned gate guard memory =
    record {
      attempts = λ worker. grind (arith, nat_tests, guard.pins.is_taken, guard.pins.same_number);
      seqs = λ slot. grind (arith, nat_tests, guard.pins.is_taken, guard.pins.same_number);
      taken = λ slot is same. grind (arith, nat_tests, guard.pins.is_taken, guard.pins.same_number);
      faults = λ tenant is. grind (arith, nat_tests, guard.pins.is_taken, guard.pins.same_number);
      rows = λ worker apart. grind (arith, nat_tests, guard.pins.is_taken, guard.pins.same_number);
      own_attempts = λ worker apart. grind (arith, nat_tests, guard.pins.is_taken, guard.pins.same_number);
      standing = λ worker apart. grind (arith, nat_tests, guard.pins.is_taken, guard.pins.same_number);
      permissions = λ worker apart. grind (arith, nat_tests, guard.pins.is_taken, guard.pins.same_number);
      stood = λ tenant address worker number old is. grind (arith, nat_tests, guard.pins.is_taken, guard.pins.same_number);
      births = λ slot seq is. grind (arith, nat_tests, guard.pins.is_taken, guard.pins.same_number);
      stays = λ slot seq is. grind (arith, nat_tests, guard.pins.is_taken, guard.pins.same_number);
      stays_not = λ slot seq is apart. grind (arith, nat_tests, guard.pins.is_taken, guard.pins.same_number);
      fault_decided = λ slot seq is. grind (arith, nat_tests, guard.pins.is_taken, guard.pins.same_number);
      ready = λ slot seq was is. grind (arith, nat_tests, guard.pins.is_taken, guard.pins.same_number);
      was_open = λ slot seq was is. grind (arith, nat_tests, guard.pins.is_taken, guard.pins.same_number);
      is_made = λ slot seq was. grind (arith, nat_tests, guard.pins.is_taken, guard.pins.same_number);
      sealed = λ slot seq was. grind (arith, nat_tests, guard.pins.is_taken, guard.pins.same_number);
      done = λ slot seq was. grind (arith, nat_tests, guard.pins.is_taken, guard.pins.same_number);
      refused = λ slot seq entry value was. grind (arith, nat_tests, guard.pins.is_taken, guard.pins.same_number);
      canceled = λ slot seq entry value was. grind (arith, nat_tests, guard.pins.is_taken, guard.pins.same_number);
      drafts = λ slot seq is apart was. grind (arith, nat_tests, guard.pins.is_taken, guard.pins.same_number);
      filled = λ slot is claimed apart was same. grind (arith, nat_tests, guard.pins.is_taken, guard.pins.same_number);
      touched = λ slot seq address was is. grind (arith, nat_tests, guard.pins.is_taken, guard.pins.same_number);
      was_acquired = λ slot seq address was is. grind (arith, nat_tests, guard.pins.is_taken, guard.pins.same_number);
      acquired = λ slot seq address was is kept. grind (arith, nat_tests, guard.pins.is_taken, guard.pins.same_number);
      was_released = λ slot seq address was. grind (arith, nat_tests, guard.pins.is_taken, guard.pins.same_number);
    }

pub unpin_lets_rely : (config : Config) (state : State) (mover : ℕ) (pinned : ℕ) → Guard config state mover (Unpin pinned) → Memory config state → Rely mover state (made state mover (Unpin pinned))
unpin_lets_rely config state mover pinned guard memory =
    record {
      attempts = λ worker. grind (arith, nat_tests);
      seqs = λ slot. grind (arith, nat_tests);
      taken = λ slot is same. grind (arith, nat_tests);
      faults = λ tenant is. grind (arith, nat_tests);
      rows = λ worker apart. grind (arith, nat_tests);
      own_attempts = λ worker apart. grind (arith, nat_tests);
      standing = λ worker apart. grind (arith, nat_tests);
      permissions = λ worker apart. grind (arith, nat_tests);
      stood = λ tenant address worker number old is. grind (arith, nat_tests);
      births = λ slot seq is. grind (arith, nat_tests);
      stays = λ slot seq is. grind (arith, nat_tests);
      stays_not = λ slot seq is apart. grind (arith, nat_tests);
      fault_decided = λ slot seq is. grind (arith, nat_tests);
      ready = λ slot seq was is. grind (arith, nat_tests);
      was_open = λ slot seq was is. grind (arith, nat_tests);
      is_made = λ slot seq was. grind (arith, nat_tests);
      sealed = λ slot seq was. grind (arith, nat_tests);
      done = λ slot seq was. grind (arith, nat_tests);
      refused = λ slot seq entry value was. grind (arith, nat_tests);
      canceled = λ slot seq entry value was. grind (arith, nat_tests);
      drafts = λ slot seq is apart was. grind (arith, nat_tests);
      filled = λ slot is claimed apart was same. grind (arith, nat_tests);
      touched = λ slot seq address was is. grind (arith, nat_tests);
      was_acquired = λ slot seq address was is. grind (arith, nat_tests);
      acquired = λ slot seq address was is kept. grind (arith, nat_tests);
      was_released = λ slot seq address was. grind (arith, nat_tests);
    }

pub free_lets_rely : (config : Config) (state : State) (mover : ℕ) (freed : ℕ) (gate : Gate) → Guard config state mover (Free freed gate) → Memory config state → Rely mover state (made state mover (Free freed gate))
free_lets_rely config state mover freed gate guard memory =
    record {
      attempts = λ worker. grind (arith, nat_tests, guard.frees.next_number, guard.frees.is_not_taken);
      seqs = λ slot. grind (arith, nat_tests, guard.frees.next_number, guard.frees.is_not_taken);
      taken = λ slot is same. grind (arith, nat_tests, guard.frees.next_number, guard.frees.is_not_taken);
      faults = λ tenant is. grind (arith, nat_tests, guard.frees.next_number, guard.frees.is_not_taken);
      rows = λ worker apart. grind (arith, nat_tests, guard.frees.next_number, guard.frees.is_not_taken);
      own_attempts = λ worker apart. grind (arith, nat_tests, guard.frees.next_number, guard.frees.is_not_taken);
      standing = λ worker apart. grind (arith, nat_tests, guard.frees.next_number, guard.frees.is_not_taken);
      permissions = λ worker apart. grind (arith, nat_tests, guard.frees.next_number, guard.frees.is_not_taken);
      stood = λ tenant address worker number old is. grind (arith, nat_tests, guard.frees.next_number, guard.frees.is_not_taken);
      births = λ slot seq is. grind (arith, nat_tests, guard.frees.next_number, guard.frees.is_not_taken);
      stays = λ slot seq is. grind (arith, nat_tests, guard.frees.next_number, guard.frees.is_not_taken);
      stays_not = λ slot seq is apart. grind (arith, nat_tests, guard.frees.next_number, guard.frees.is_not_taken);
      fault_decided = λ slot seq is. grind (arith, nat_tests, guard.frees.next_number, guard.frees.is_not_taken);
      ready = λ slot seq was is. grind (arith, nat_tests, guard.frees.next_number, guard.frees.is_not_taken);
      was_open = λ slot seq was is. grind (arith, nat_tests, guard.frees.next_number, guard.frees.is_not_taken);
      is_made = λ slot seq was. grind (arith, nat_tests, guard.frees.next_number, guard.frees.is_not_taken);
      sealed = λ slot seq was. grind (arith, nat_tests, guard.frees.next_number, guard.frees.is_not_taken);
      done = λ slot seq was. grind (arith, nat_tests, guard.frees.next_number, guard.frees.is_not_taken);
      refused = λ slot seq entry value was. grind (arith, nat_tests, guard.frees.next_number, guard.frees.is_not_taken);
      canceled = λ slot seq entry value was. grind (arith, nat_tests, guard.frees.next_number, guard.frees.is_not_taken);
      drafts = λ slot seq is apart was. grind (arith, nat_tests, guard.frees.next_number, guard.frees.is_not_taken);
      filled = λ slot is claimed apart was same. grind (arith, nat_tests, guard.frees.next_number, guard.frees.is_not_taken);
      touched = λ slot seq address was is. grind (arith, nat_tests, guard.frees.next_number, guard.frees.is_not_taken);
      was_acquired = λ slot seq address was is. grind (arith, nat_tests, guard.frees.next_number, guard.frees.is_not_taken);
      acquired = λ slot seq address was is kept. grind (arith, nat_tests, guard.frees.next_number, guard.frees.is_not_taken);
      was_released = λ slot seq address was. grind (arith, nat_tests, guard.frees.next_number, guard.frees.is_not_taken);
    }
