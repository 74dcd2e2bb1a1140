-- A worker's moves (elementary changes) keep the world facts about decided faults and about the tenants of changes.
-- Used by: WorldFactLaws, Calls, Requests, among others.
use Rattle.std.specs.Prelude.{ℕ, ◌≡◌, ◌⊎◌, Bool, true, false, List, [], ◌∷◌}
use Rattle.std.proofs.Common.{refl, sym, ◌∙◌, inl, inr, arith}
use Rattle.std.proofs.lemmas.Bool.Decides.{nat_tests}
use Rattle.mw_words.specs.declared.gates.Gate.{Gate}
use Rattle.mw_words.specs.declared.jobs.Entry.{Entry}
use Rattle.mw_words.specs.declared.statuses.Status.{Status}
use Rattle.mw_words.specs.declared.statuses.Status.TheVariants.{Open, YesDirty, No}
use Rattle.mw_actor.specs.declared.points.Slot.{Slot}
use Rattle.mw_world.specs.declared.config.Config.{Config}
use Rattle.mw_world.specs.Definition.History.{History}
use Rattle.mw_world.specs.Definition.LabelEffects.{with_claim, with_status, left, with_fault_decided}
use Rattle.mw_world.specs.Definition.State.{State, TenantState}
use Rattle.mw_law_runs.specs.Moves.Guards.{Guard, Guards, MayClaim}
use Rattle.mw_law_runs.specs.Moves.Memory.{Memory}
use Rattle.mw_law_runs.specs.Moves.Moves.{Move, Claim, Prepare, SayYes, SayNo, Seal, Settle, Cancel, LeavePin, DecideFault, made, made_all}
use Rattle.mw_law_runs.proofs.Moves.MovesKeepMemory.{move_keeps}

-- The first four world facts, by what they speak of: which changes were claimed, for which FAULT is decided, and whose workers
-- have left their pin; each one's status and tenant; and whose files have failed, and are up.
pub record FaultFactsAfter (is_claimed is_fault_decided stays : ℕ → ℕ → Bool) (fates : ℕ → ℕ → Status) (of : ℕ → ℕ → ℕ) (fails is_up : ℕ → Bool) : Type 0 where
  pub unclaimed : (slot seq : ℕ) → is_claimed slot seq ≡ false → is_fault_decided slot seq ≡ false
  pub failed : (slot seq : ℕ) → is_fault_decided slot seq ≡ true → fails (of slot seq) ≡ true
  pub left_it : (slot seq : ℕ) → is_fault_decided slot seq ≡ true → (stays slot seq ≡ true) ⊎ (fates slot seq ≡ YesDirty)
  pub up : (slot seq : ℕ) → is_claimed slot seq ≡ true → is_up (of slot seq) ≡ true

abbrev pub FaultFacts : History → (ℕ → Bool) → (ℕ → Bool) → Type 0
FaultFacts past fails is_up = FaultFactsAfter past.is_claimed past.is_fault_decided past.stays past.fate past.tenant fails is_up

-- whose files have failed
abbrev pub failed_of : (ℕ → TenantState) → ℕ → Bool
failed_of tenant_states tenant = (tenant_states tenant).file.has_failed

abbrev pub up_of : (ℕ → TenantState) → ℕ → Bool
up_of tenant_states tenant = (tenant_states tenant).is_up

-- A change is one of a tenant whose file has failed.
pub record IsOfFailed (past : History) (fails : ℕ → Bool) (target : Slot) : Type 0 where
  pub is_claimed : past.is_claimed target.slot target.seq ≡ true
  pub failed : fails (past.tenant target.slot target.seq) ≡ true

-- If FAULT is decided for the change, its worker has left its pin.
abbrev pub LeavesIfFaultDecided : History → Slot → Type 0
LeavesIfFaultDecided past target = past.is_fault_decided target.slot target.seq ≡ true → past.stays target.slot target.seq ≡ true

module _ (past : History) (fails is_up : ℕ → Bool) (fault_facts : FaultFacts past fails is_up) where
  pub after_claim : (slot seq worker tenant request : ℕ) (entries : List Entry) → past.is_claimed slot seq ≡ false → is_up tenant ≡ true
      → FaultFacts (with_claim past slot seq worker tenant request entries) fails is_up
  after_claim slot seq worker tenant request entries new up = record {
    unclaimed = λ one other is. grind (arith, nat_tests, is, fault_facts.unclaimed one other);
    failed = λ one other is. grind (arith, nat_tests, is, fault_facts.failed one other, fault_facts.unclaimed one other, new);
    left_it = λ one other is. fault_facts.left_it one other is;
    up = λ one other is. grind (arith, nat_tests, is, fault_facts.up one other, up);
  }

  pub after_status : (target : Slot) (status : Status) → LeavesIfFaultDecided past target → FaultFacts (with_status past target status) fails is_up
  after_status target status leaves = record {
    unclaimed = fault_facts.unclaimed;
    failed = fault_facts.failed;
    left_it = λ one other is. grind (arith, nat_tests, is, fault_facts.left_it one other, leaves);
    up = fault_facts.up;
  }

  pub after_leaving : (own : Slot) → FaultFacts (left past own) fails is_up
  after_leaving own = record {
    unclaimed = fault_facts.unclaimed;
    failed = fault_facts.failed;
    left_it = λ one other is. grind (arith, nat_tests, is, fault_facts.left_it one other);
    up = fault_facts.up;
  }

  pub after_spoiling : (target : Slot) → IsOfFailed past fails target → (past.stays target.slot target.seq ≡ true) ⊎ (past.fate target.slot target.seq ≡ YesDirty)
      → FaultFacts (with_fault_decided past target) fails is_up
  after_spoiling target of left = record {
    unclaimed = λ one other is. grind (arith, nat_tests, is, fault_facts.unclaimed one other, of.is_claimed);
    failed = λ one other is. grind (arith, nat_tests, is, fault_facts.failed one other, of.failed);
    left_it = λ one other is. grind (arith, nat_tests, is, fault_facts.left_it one other, left);
    up = fault_facts.up;
  }

  -- files that fail besides
  pub more_fail : (others ups : ℕ → Bool) → ((tenant : ℕ) → fails tenant ≡ true → others tenant ≡ true) → ((tenant : ℕ) → ups tenant ≡ is_up tenant) → FaultFacts past others ups
  more_fail others ups more same = record {
    unclaimed = fault_facts.unclaimed;
    failed = λ one other is. more (past.tenant one other) (fault_facts.failed one other is);
    left_it = fault_facts.left_it;
    up = λ one other is. same (past.tenant one other) ∙ fault_facts.up one other is;
  }

  -- a change that is not decided to be made and waiting for it whose worker has left its pin, if FAULT is decided for it
  pub leaves_at : (target : Slot) (status : Status) → past.fate target.slot target.seq ≡ status → (status ≡ YesDirty → ⊥) → LeavesIfFaultDecided past target
  leaves_at target status is other with_fault_decided = by_left (fault_facts.left_it target.slot target.seq with_fault_decided)
    where
      by_left : (past.stays target.slot target.seq ≡ true) ⊎ (past.fate target.slot target.seq ≡ YesDirty) → past.stays target.slot target.seq ≡ true
      by_left (inl stays) = stays
      by_left (inr due) = absurd (other (sym is ∙ due))

-- What a move of a step needs to keep this. A step that is not a call makes no change durable, opens none, and is done with none.
module _ (fails is_up : ℕ → Bool) where
  abbrev pub Keeps : State → Move → Type 0
  Keeps state (Claim own gate tenant request entries) = is_up tenant ≡ true
  Keeps state (DecideFault target) = IsOfFailed state.history fails target × (state.history.stays target.slot target.seq ≡ true)
  Keeps state (Prepare target) = ⊥
  Keeps state (Seal target) = ⊥
  Keeps state (Settle target) = ⊥
  Keeps state (Cancel target entry value) = ⊥
  Keeps state move = Unit {0}

  -- several moves, one after the other, keep this
  abbrev pub AllKeep : State → ℕ → List Move → Type 0
  AllKeep state by [] = Unit {0}
  AllKeep state by (move ∷ moves) = Keeps state move × AllKeep (made state by move) by moves

  module _ (config : Config) (state : State) (by : ℕ) (memory : Memory config state) (fault_facts : FaultFacts state.history fails is_up) where
    not_claimed : (own : Slot) (gate : Gate) (tenant : ℕ) (entries : List Entry) → MayClaim config state own gate tenant entries → state.history.is_claimed own.slot own.seq ≡ false
    not_claimed own gate tenant entries guard = by_test (state.history.is_claimed own.slot own.seq) refl
      where
        by_test : (b : Bool) → state.history.is_claimed own.slot own.seq ≡ b → b ≡ false
        by_test false is = refl
        by_test true is = absurd (grind (arith, nat_tests, memory.claims.latest own.slot own.seq is, guard.was_free, guard.had_number))

    move_spoils : (move : Move) → Guard config state by move → Keeps state move → FaultFacts (made state by move).history fails is_up
    move_spoils (Claim own gate tenant request entries) guard keeps =
        after_claim state.history fails is_up fault_facts own.slot own.seq by tenant request entries (not_claimed own gate tenant entries guard) keeps
    move_spoils (SayYes target) guard keeps =
        after_status state.history fails is_up fault_facts target YesDirty (leaves_at state.history fails is_up fault_facts target Open guard.is_open (λ is. cc))
    move_spoils (SayNo target entry value) guard keeps =
        after_status state.history fails is_up fault_facts target (No entry value) (leaves_at state.history fails is_up fault_facts target Open guard.is_open (λ is. cc))
    move_spoils (LeavePin target) guard keeps = after_leaving state.history fails is_up fault_facts target
    move_spoils (DecideFault target) guard keeps = after_spoiling state.history fails is_up fault_facts target keeps.0 (inl keeps.1)
    move_spoils (Prepare target) guard keeps = absurd keeps
    move_spoils (Seal target) guard keeps = absurd keeps
    move_spoils (Settle target) guard keeps = absurd keeps
    move_spoils (Cancel target entry value) guard keeps = absurd keeps
    move_spoils move guard keeps = fault_facts

  pub moves_decide_fault : (config : Config) (state : State) (by : ℕ) (moves : List Move) → Guards config state by moves → Memory config state → AllKeep state by moves → FaultFacts state.history fails is_up
      → FaultFacts (made_all state by moves).history fails is_up
  moves_decide_fault config state by [] guards memory keep fault_facts = fault_facts
  moves_decide_fault config state by (move ∷ moves) guards memory keep fault_facts =
      moves_decide_fault config (made state by move) by moves guards.1 (move_keeps config state by move guards.0 memory) keep.1
      (move_spoils config state by memory fault_facts move guards.0 keep.0)
