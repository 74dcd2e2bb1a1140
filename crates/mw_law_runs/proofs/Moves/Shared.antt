-- The invariant `Memory`, and what others may rely on, depend on nothing but the shared words, the history and the attempt
-- numbers.
-- Used by: memory_is_shared, mw_law_store.
use Rattle.std.proofs.Common.{◌≡◌, ℕ, subst, sym, arith}
use Rattle.std.proofs.lemmas.Bool.Decides.{nat_tests}
use Rattle.mw_world.specs.declared.config.Config.{Config}
use Rattle.mw_world.specs.Definition.Cells.{Cells}
use Rattle.mw_world.specs.Definition.History.{History}
use Rattle.mw_world.specs.Definition.State.{State, WorkerState, TenantState}
use Rattle.mw_law_runs.specs.Moves.Memory.{Memory}
use Rattle.mw_law_runs.specs.Moves.Rely.{Rely}
use Rattle.mw_law_runs.specs.Moves.Steps.{MemoryIsShared, RelyIsOverMemory}
use Rattle.mw_law_runs.specs.Moves.StepMoves.{SameMemory}

-- the world with these workers and tenants
abbrev among : State → (ℕ → WorkerState) → (ℕ → TenantState) → State
among state worker_states tenant_states = record state { worker_states = worker_states; tenant_states = tenant_states }

module _ (state : State) (worker_states : ℕ → WorkerState) (tenant_states : ℕ → TenantState) (same : (worker : ℕ) → (worker_states worker).attempt ≡ (state.worker_states worker).attempt) where
  memory_among : (config : Config) → Memory config state → Memory config (among state worker_states tenant_states)
  memory_among config memory = record {
    claims = record {
      there = λ slot taken. grind (arith, nat_tests, memory.claims.there slot);
      claimed = λ slot taken. grind (arith, nat_tests, memory.claims.claimed slot);
      latest = λ slot seq is. grind (arith, nat_tests, memory.claims.latest slot seq);
      formed = λ slot seq is. grind (arith, nat_tests, memory.claims.formed slot seq);
      unclaimed = λ slot seq is. grind (arith, nat_tests, memory.claims.unclaimed slot seq);
      of_pool = λ slot seq is. grind (arith, nat_tests, memory.claims.of_pool slot seq);
      rows = λ worker. grind (arith, nat_tests, memory.claims.rows worker);
    };
    slots = record {
      status = λ slot taken ready. grind (arith, nat_tests, memory.slots.status slot);
      count = λ slot taken ready. grind (arith, nat_tests, memory.slots.count slot);
      entries = λ slot index taken ready within. grind (arith, nat_tests, memory.slots.entries slot index);
    };
    references = record {
      held = λ tenant address slot seq is. grind (arith, nat_tests, memory.references.held tenant address slot seq);
      dirty = λ tenant address slot value is. grind (arith, nat_tests, memory.references.dirty tenant address slot value);
      planted = λ tenant address worker attempt is. grind (arith, nat_tests, memory.references.planted tenant address worker attempt, same worker);
    };
    attempts = record {
      once = λ tenant address other there worker attempt one two. grind (arith, nat_tests, memory.attempts.once tenant address other there worker attempt, same worker);
      numbers = λ worker tenant address attempt is. grind (arith, nat_tests, memory.attempts.numbers worker tenant address attempt, same worker);
      ready = λ worker tenant address attempt is draft. grind (arith, nat_tests, memory.attempts.ready worker tenant address attempt, same worker);
    };
    words = record {
      allowed = λ slot seq address is. grind (arith, nat_tests, memory.words.allowed slot seq address);
      others = λ slot seq address is. grind (arith, nat_tests, memory.words.others slot seq address);
      acquired = λ slot seq address is. grind (arith, nat_tests, memory.words.acquired slot seq address);
      was_written = λ slot seq address is. grind (arith, nat_tests, memory.words.was_written slot seq address);
    };
    late = record {
      permitted = λ by tenant address worker attempt slot seq is. grind (arith, nat_tests, memory.late.permitted by tenant address worker attempt slot seq, same worker);
      finds = λ by tenant address worker attempt slot seq is found. grind (arith, nat_tests, memory.late.finds by tenant address worker attempt slot seq, same worker);
      made = λ slot seq address is entry fresh. grind (arith, nat_tests, memory.late.made slot seq address);
      lose = λ by tenant address worker attempt slot seq is is_made found. grind (arith, nat_tests, memory.late.lose by tenant address worker attempt slot seq, same worker);
    };
    written = memory.written;
    fits = memory.fits;
  }

  reliance_among : (by : ℕ) (old : State) → Rely by old state → Rely by old (among state worker_states tenant_states)
  reliance_among by old later = record {
    attempts = λ worker. grind (arith, nat_tests, later.attempts worker, same worker);
    seqs = λ slot. grind (arith, nat_tests, later.seqs slot);
    taken = λ slot is same. grind (arith, nat_tests, later.taken slot);
    faults = λ tenant is. grind (arith, nat_tests, later.faults tenant);
    rows = λ worker apart. grind (arith, nat_tests, later.rows worker, same worker);
    own_attempts = λ worker apart. grind (arith, nat_tests, later.own_attempts worker, same worker);
    standing = λ worker apart. grind (arith, nat_tests, later.standing worker, same worker);
    permissions = λ worker apart. grind (arith, nat_tests, later.permissions worker, same worker);
    stood = λ tenant address worker number old is. grind (arith, nat_tests, later.stood tenant address worker number, same worker);
    births = λ slot seq is. grind (arith, nat_tests, later.births slot seq);
    stays = λ slot seq is. grind (arith, nat_tests, later.stays slot seq);
    stays_not = λ slot seq is apart. grind (arith, nat_tests, later.stays_not slot seq);
    fault_decided = λ slot seq is. grind (arith, nat_tests, later.fault_decided slot seq);
    ready = λ slot seq was is. grind (arith, nat_tests, later.ready slot seq);
    was_open = λ slot seq was is. grind (arith, nat_tests, later.was_open slot seq);
    is_made = λ slot seq was. grind (arith, nat_tests, later.is_made slot seq);
    sealed = λ slot seq was. grind (arith, nat_tests, later.sealed slot seq);
    done = λ slot seq was. grind (arith, nat_tests, later.done slot seq);
    refused = λ slot seq entry value was. grind (arith, nat_tests, later.refused slot seq entry value);
    canceled = λ slot seq entry value was. grind (arith, nat_tests, later.canceled slot seq entry value);
    drafts = λ slot seq is apart was. grind (arith, nat_tests, later.drafts slot seq);
    filled = λ slot is claimed apart was same. grind (arith, nat_tests, later.filled slot);
    touched = λ slot seq address was is. grind (arith, nat_tests, later.touched slot seq address);
    was_acquired = λ slot seq address was is. grind (arith, nat_tests, later.was_acquired slot seq address);
    acquired = λ slot seq address was is kept. grind (arith, nat_tests, later.acquired slot seq address);
    was_released = λ slot seq address was. grind (arith, nat_tests, later.was_released slot seq address);
  }

-- the world with these shared words and this history
abbrev holding : State → Cells → History → State
holding state cells history = record state { cells = cells; history = history }

module _ (one other : State) (same : SameMemory one other) where
  pub is_shared : (P : State → Type 0) → P (among other one.worker_states one.tenant_states) → P one
  is_shared P holds =
      subst (λ (history : History). P (holding one one.cells history)) (sym same.history)
      (subst (λ (cells : Cells). P (holding one cells other.history)) (sym same.cells) holds)

pub memory_is_shared : MemoryIsShared
memory_is_shared config one other same memory = is_shared one other same (λ (state : State). Memory config state) (memory_among other one.worker_states one.tenant_states same.attempts config memory)

pub reliance_is_shared : RelyIsOverMemory
reliance_is_shared by old one other same later = is_shared one other same (λ (state : State). Rely by old state) (reliance_among other one.worker_states one.tenant_states same.attempts by old later)
