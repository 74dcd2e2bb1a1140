-- Changing a data word (planting, taking back, holding, releasing, cleaning) keeps what other workers rely on (`Rely`).
-- Used by: Relied.
use Rattle.std.proofs.Common.{◌≢◌, ℕ, arith}
use Rattle.std.proofs.lemmas.Bool.Decides.{nat_tests}
use Rattle.mw_words.specs.declared.statuses.Status.TheVariants.{Open}
use Rattle.mw_actor.specs.declared.points.Slot.{Slot}
use Rattle.mw_world.specs.declared.config.Config.{Config}
use Rattle.mw_world.specs.Definition.State.{State}
use Rattle.mw_law_runs.specs.Moves.Moves.{Plant, TakeBack, Hold, WriteNew, LetGo, Clean, made}
use Rattle.mw_law_runs.specs.Moves.Guards.{Guard}
use Rattle.mw_law_runs.specs.Moves.Memory.{Memory}
use Rattle.mw_law_runs.specs.Moves.Rely.{Rely}
use Rattle.mw_law_runs.proofs.Moves.Phases.{refused_not_open}

pub plant_lets_rely : (config : Config) (state : State) (mover : ℕ) (in_tenant : ℕ) (in_address : ℕ) (given : ℕ) → Guard config state mover (Plant in_tenant in_address given) → Memory config state → Rely mover state (made state mover (Plant in_tenant in_address given))
plant_lets_rely config state mover in_tenant in_address given guard memory =
    record {
      attempts = λ worker. grind (arith, nat_tests, guard.next);
      seqs = λ slot. grind (arith, nat_tests, guard.next);
      taken = λ slot is same. grind (arith, nat_tests, guard.next);
      faults = λ tenant is. grind (arith, nat_tests, guard.next);
      rows = λ worker apart. grind (arith, nat_tests, guard.next);
      own_attempts = λ worker apart. grind (arith, nat_tests, guard.next);
      standing = λ worker apart. grind (arith, nat_tests, guard.next);
      permissions = λ worker apart. grind (arith, nat_tests, guard.next);
      stood = λ tenant address worker number old is. grind (arith, nat_tests, guard.next, memory.references.planted tenant address worker number);
      births = λ slot seq is. grind (arith, nat_tests, guard.next);
      stays = λ slot seq is. grind (arith, nat_tests, guard.next);
      stays_not = λ slot seq is apart. grind (arith, nat_tests, guard.next);
      fault_decided = λ slot seq is. grind (arith, nat_tests, guard.next);
      ready = λ slot seq was is. grind (arith, nat_tests, guard.next);
      was_open = λ slot seq was is. grind (arith, nat_tests, guard.next);
      is_made = λ slot seq was. grind (arith, nat_tests, guard.next);
      sealed = λ slot seq was. grind (arith, nat_tests, guard.next);
      done = λ slot seq was. grind (arith, nat_tests, guard.next);
      refused = λ slot seq entry value was. grind (arith, nat_tests, guard.next);
      canceled = λ slot seq entry value was. grind (arith, nat_tests, guard.next);
      drafts = λ slot seq is apart was. grind (arith, nat_tests, guard.next);
      filled = λ slot is claimed apart was same. grind (arith, nat_tests, guard.next);
      touched = λ slot seq address was is. grind (arith, nat_tests, guard.next);
      was_acquired = λ slot seq address was is. grind (arith, nat_tests, guard.next);
      acquired = λ slot seq address was is kept. grind (arith, nat_tests, guard.next);
      was_released = λ slot seq address was. grind (arith, nat_tests, guard.next);
    }

pub take_back_lets_rely : (config : Config) (state : State) (mover : ℕ) (in_tenant : ℕ) (in_address : ℕ) (owner : ℕ) (taken_back : ℕ) (plain_value : ℕ) → Guard config state mover (TakeBack in_tenant in_address owner taken_back plain_value) → Memory config state → Rely mover state (made state mover (TakeBack in_tenant in_address owner taken_back plain_value))
take_back_lets_rely config state mover in_tenant in_address owner taken_back plain_value guard memory =
    record {
      attempts = λ worker. grind (arith, nat_tests);
      seqs = λ slot. grind (arith, nat_tests);
      taken = λ slot is same. grind (arith, nat_tests);
      faults = λ tenant is. grind (arith, nat_tests);
      rows = λ worker apart. grind (arith, nat_tests);
      own_attempts = λ worker apart. grind (arith, nat_tests);
      standing = λ worker apart. grind (arith, nat_tests);
      permissions = λ worker apart. grind (arith, nat_tests);
      stood = λ tenant address worker number old is. grind (arith, nat_tests, memory.references.planted tenant address worker number);
      births = λ slot seq is. grind (arith, nat_tests);
      stays = λ slot seq is. grind (arith, nat_tests);
      stays_not = λ slot seq is apart. grind (arith, nat_tests);
      fault_decided = λ slot seq is. grind (arith, nat_tests);
      ready = λ slot seq was is. grind (arith, nat_tests);
      was_open = λ slot seq was is. grind (arith, nat_tests);
      is_made = λ slot seq was. grind (arith, nat_tests);
      sealed = λ slot seq was. grind (arith, nat_tests);
      done = λ slot seq was. grind (arith, nat_tests);
      refused = λ slot seq entry value was. grind (arith, nat_tests);
      canceled = λ slot seq entry value was. grind (arith, nat_tests);
      drafts = λ slot seq is apart was. grind (arith, nat_tests);
      filled = λ slot is claimed apart was same. grind (arith, nat_tests);
      touched = λ slot seq address was is. grind (arith, nat_tests);
      was_acquired = λ slot seq address was is. grind (arith, nat_tests);
      acquired = λ slot seq address was is kept. grind (arith, nat_tests);
      was_released = λ slot seq address was. grind (arith, nat_tests);
    }

pub hold_lets_rely : (config : Config) (state : State) (mover : ℕ) (in_tenant : ℕ) (in_address : ℕ) (owner : ℕ) (held_by : ℕ) (target : Slot) → Guard config state mover (Hold in_tenant in_address owner held_by target) → Memory config state → Rely mover state (made state mover (Hold in_tenant in_address owner held_by target))
hold_lets_rely config state mover in_tenant in_address owner held_by target guard memory =
    let finds = memory.late.finds mover in_tenant in_address owner held_by target.slot target.seq guard.permission guard.word in
    record {
      attempts = λ worker. grind (arith, nat_tests, finds.fresh);
      seqs = λ slot. grind (arith, nat_tests, finds.fresh);
      taken = λ slot is same. grind (arith, nat_tests, finds.fresh);
      faults = λ tenant is. grind (arith, nat_tests, finds.fresh);
      rows = λ worker apart. grind (arith, nat_tests, finds.fresh);
      own_attempts = λ worker apart. grind (arith, nat_tests, finds.fresh);
      standing = λ worker apart. grind (arith, nat_tests, finds.fresh);
      permissions = λ worker apart. grind (arith, nat_tests, finds.fresh);
      stood = λ tenant address worker number old is. grind (arith, nat_tests, finds.fresh);
      births = λ slot seq is. grind (arith, nat_tests, finds.fresh);
      stays = λ slot seq is. grind (arith, nat_tests, finds.fresh);
      stays_not = λ slot seq is apart. grind (arith, nat_tests, finds.fresh);
      fault_decided = λ slot seq is. grind (arith, nat_tests, finds.fresh);
      ready = λ slot seq was is. grind (arith, nat_tests, finds.fresh);
      was_open = λ slot seq was is. grind (arith, nat_tests, finds.fresh);
      is_made = λ slot seq was. grind (arith, nat_tests, finds.fresh);
      sealed = λ slot seq was. grind (arith, nat_tests, finds.fresh);
      done = λ slot seq was. grind (arith, nat_tests, finds.fresh);
      refused = λ slot seq entry value was. grind (arith, nat_tests, finds.fresh);
      canceled = λ slot seq entry value was. grind (arith, nat_tests, finds.fresh);
      drafts = λ slot seq is apart was. grind (arith, nat_tests, finds.fresh);
      filled = λ slot is claimed apart was same. grind (arith, nat_tests, finds.fresh);
      touched = λ slot seq address was is. grind (arith, nat_tests, finds.fresh);
      was_acquired = λ slot seq address was is. grind (arith, nat_tests, finds.fresh);
      acquired = λ slot seq address was is kept. grind (arith, nat_tests, finds.fresh);
      was_released = λ slot seq address was. grind (arith, nat_tests, finds.fresh);
    }

pub write_new_lets_rely : (config : Config) (state : State) (mover : ℕ) (in_tenant : ℕ) (in_address : ℕ) (target : Slot) (written_value : ℕ) → Guard config state mover (WriteNew in_tenant in_address target written_value) → Memory config state → Rely mover state (made state mover (WriteNew in_tenant in_address target written_value))
write_new_lets_rely config state mover in_tenant in_address target written_value guard memory =
    let held = memory.references.held in_tenant in_address target.slot target.seq guard.word in
    record {
      attempts = λ worker. grind (arith, nat_tests, held.acquired, guard.is_made);
      seqs = λ slot. grind (arith, nat_tests, held.acquired, guard.is_made);
      taken = λ slot is same. grind (arith, nat_tests, held.acquired, guard.is_made);
      faults = λ tenant is. grind (arith, nat_tests, held.acquired, guard.is_made);
      rows = λ worker apart. grind (arith, nat_tests, held.acquired, guard.is_made);
      own_attempts = λ worker apart. grind (arith, nat_tests, held.acquired, guard.is_made);
      standing = λ worker apart. grind (arith, nat_tests, held.acquired, guard.is_made);
      permissions = λ worker apart. grind (arith, nat_tests, held.acquired, guard.is_made);
      stood = λ tenant address worker number old is. grind (arith, nat_tests, held.acquired, guard.is_made);
      births = λ slot seq is. grind (arith, nat_tests, held.acquired, guard.is_made);
      stays = λ slot seq is. grind (arith, nat_tests, held.acquired, guard.is_made);
      stays_not = λ slot seq is apart. grind (arith, nat_tests, held.acquired, guard.is_made);
      fault_decided = λ slot seq is. grind (arith, nat_tests, held.acquired, guard.is_made);
      ready = λ slot seq was is. grind (arith, nat_tests, held.acquired, guard.is_made);
      was_open = λ slot seq was is. grind (arith, nat_tests, held.acquired, guard.is_made);
      is_made = λ slot seq was. grind (arith, nat_tests, held.acquired, guard.is_made);
      sealed = λ slot seq was. grind (arith, nat_tests, held.acquired, guard.is_made);
      done = λ slot seq was. grind (arith, nat_tests, held.acquired, guard.is_made);
      refused = λ slot seq entry value was. grind (arith, nat_tests, held.acquired, guard.is_made);
      canceled = λ slot seq entry value was. grind (arith, nat_tests, held.acquired, guard.is_made);
      drafts = λ slot seq is apart was. grind (arith, nat_tests, held.acquired, guard.is_made);
      filled = λ slot is claimed apart was same. grind (arith, nat_tests, held.acquired, guard.is_made);
      touched = λ slot seq address was is. grind (arith, nat_tests, held.acquired, guard.is_made);
      was_acquired = λ slot seq address was is. grind (arith, nat_tests, held.acquired, guard.is_made);
      acquired = λ slot seq address was is kept. grind (arith, nat_tests, held.acquired, guard.is_made);
      was_released = λ slot seq address was. grind (arith, nat_tests, held.acquired, guard.is_made);
    }

pub let_go_lets_rely : (config : Config) (state : State) (mover : ℕ) (in_tenant : ℕ) (in_address : ℕ) (target : Slot) (plain_value : ℕ) → Guard config state mover (LetGo in_tenant in_address target plain_value) → Memory config state → Rely mover state (made state mover (LetGo in_tenant in_address target plain_value))
let_go_lets_rely config state mover in_tenant in_address target plain_value guard memory =
    let held = memory.references.held in_tenant in_address target.slot target.seq guard.word in
    let closed : state.history.fate target.slot target.seq ≢ Open = refused_not_open (state.history.fate target.slot target.seq) guard.refused in
    record {
      attempts = λ worker. grind (arith, nat_tests, held.acquired);
      seqs = λ slot. grind (arith, nat_tests, held.acquired);
      taken = λ slot is same. grind (arith, nat_tests, held.acquired);
      faults = λ tenant is. grind (arith, nat_tests, held.acquired);
      rows = λ worker apart. grind (arith, nat_tests, held.acquired);
      own_attempts = λ worker apart. grind (arith, nat_tests, held.acquired);
      standing = λ worker apart. grind (arith, nat_tests, held.acquired);
      permissions = λ worker apart. grind (arith, nat_tests, held.acquired);
      stood = λ tenant address worker number old is. grind (arith, nat_tests, held.acquired);
      births = λ slot seq is. grind (arith, nat_tests, held.acquired);
      stays = λ slot seq is. grind (arith, nat_tests, held.acquired);
      stays_not = λ slot seq is apart. grind (arith, nat_tests, held.acquired);
      fault_decided = λ slot seq is. grind (arith, nat_tests, held.acquired);
      ready = λ slot seq was is. grind (arith, nat_tests, held.acquired);
      was_open = λ slot seq was is. grind (arith, nat_tests, held.acquired);
      is_made = λ slot seq was. grind (arith, nat_tests, held.acquired);
      sealed = λ slot seq was. grind (arith, nat_tests, held.acquired);
      done = λ slot seq was. grind (arith, nat_tests, held.acquired);
      refused = λ slot seq entry value was. grind (arith, nat_tests, held.acquired);
      canceled = λ slot seq entry value was. grind (arith, nat_tests, held.acquired);
      drafts = λ slot seq is apart was. grind (arith, nat_tests, held.acquired);
      filled = λ slot is claimed apart was same. grind (arith, nat_tests, held.acquired);
      touched = λ slot seq address was is. grind (arith, nat_tests, held.acquired);
      was_acquired = λ slot seq address was is. grind (arith, nat_tests, held.acquired);
      acquired = λ slot seq address was is kept. grind (arith, nat_tests, held.acquired, closed);
      was_released = λ slot seq address was. grind (arith, nat_tests, held.acquired);
    }

pub clean_lets_rely : (config : Config) (state : State) (mover : ℕ) (in_tenant : ℕ) (in_address : ℕ) (target : Slot) (plain_value : ℕ) → Guard config state mover (Clean in_tenant in_address target plain_value) → Memory config state → Rely mover state (made state mover (Clean in_tenant in_address target plain_value))
clean_lets_rely config state mover in_tenant in_address target plain_value guard memory =
    let dirty = memory.references.dirty in_tenant in_address target.slot plain_value guard.word in
    record {
      attempts = λ worker. grind (arith, nat_tests, dirty.was_written, guard.seq);
      seqs = λ slot. grind (arith, nat_tests, dirty.was_written, guard.seq);
      taken = λ slot is same. grind (arith, nat_tests, dirty.was_written, guard.seq);
      faults = λ tenant is. grind (arith, nat_tests, dirty.was_written, guard.seq);
      rows = λ worker apart. grind (arith, nat_tests, dirty.was_written, guard.seq);
      own_attempts = λ worker apart. grind (arith, nat_tests, dirty.was_written, guard.seq);
      standing = λ worker apart. grind (arith, nat_tests, dirty.was_written, guard.seq);
      permissions = λ worker apart. grind (arith, nat_tests, dirty.was_written, guard.seq);
      stood = λ tenant address worker number old is. grind (arith, nat_tests, dirty.was_written, guard.seq);
      births = λ slot seq is. grind (arith, nat_tests, dirty.was_written, guard.seq);
      stays = λ slot seq is. grind (arith, nat_tests, dirty.was_written, guard.seq);
      stays_not = λ slot seq is apart. grind (arith, nat_tests, dirty.was_written, guard.seq);
      fault_decided = λ slot seq is. grind (arith, nat_tests, dirty.was_written, guard.seq);
      ready = λ slot seq was is. grind (arith, nat_tests, dirty.was_written, guard.seq);
      was_open = λ slot seq was is. grind (arith, nat_tests, dirty.was_written, guard.seq);
      is_made = λ slot seq was. grind (arith, nat_tests, dirty.was_written, guard.seq);
      sealed = λ slot seq was. grind (arith, nat_tests, dirty.was_written, guard.seq);
      done = λ slot seq was. grind (arith, nat_tests, dirty.was_written, guard.seq);
      refused = λ slot seq entry value was. grind (arith, nat_tests, dirty.was_written, guard.seq);
      canceled = λ slot seq entry value was. grind (arith, nat_tests, dirty.was_written, guard.seq);
      drafts = λ slot seq is apart was. grind (arith, nat_tests, dirty.was_written, guard.seq);
      filled = λ slot is claimed apart was same. grind (arith, nat_tests, dirty.was_written, guard.seq);
      touched = λ slot seq address was is. grind (arith, nat_tests, dirty.was_written, guard.seq);
      was_acquired = λ slot seq address was is. grind (arith, nat_tests, dirty.was_written, guard.seq);
      acquired = λ slot seq address was is kept. grind (arith, nat_tests, dirty.was_written, guard.seq, guard.done);
      was_released = λ slot seq address was. grind (arith, nat_tests, dirty.was_written, guard.seq);
    }
