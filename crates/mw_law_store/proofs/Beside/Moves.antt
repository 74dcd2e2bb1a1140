-- The moves (elementary changes of shared words) that a worker makes for one tenant leave another tenant's door and changes
-- unchanged. Used by: Points, Tenants.
use Rattle.std.specs.Prelude.{ℕ, ◌≡◌, ◌≢◌, ◌⊎◌, Bool, true, List, [], ◌∷◌}
use Rattle.std.proofs.Common.{refl, sym, ap, subst, ◌∙◌, inl, inr, arith}
use Rattle.std.proofs.lemmas.Bool.Decides.{nat_tests}
use Rattle.mw_words.specs.declared.gates.Gate.{Gate}
use Rattle.mw_words.specs.declared.jobs.Entry.{Entry}
use Rattle.mw_words.specs.declared.statuses.Status.{Status}
use Rattle.mw_words.specs.declared.statuses.Status.TheVariants.{Open, YesDirty, Yes, No, DoneYes, DoneNo}
use Rattle.mw_actor.specs.declared.points.Slot.{Slot}
use Rattle.mw_world.specs.Maps.{upd_two}
use Rattle.mw_world.specs.declared.config.Config.{Config}
use Rattle.mw_world.specs.Definition.State.{State}
use Rattle.mw_law_runs.specs.Moves.Guards.{Guard, Guards, MayClaim}
use Rattle.mw_law_runs.specs.Moves.Memory.{Memory}
use Rattle.mw_law_runs.specs.Moves.Moves.{Move, SetDoor, Claim, Prepare, SayYes, SayNo, Seal, Settle, Cancel, DecideFault, decide, made, made_all}
use Rattle.mw_law_runs.proofs.Moves.MovesKeepMemory.{move_keeps}
use Rattle.mw_law_runs.proofs.Knowledge.Updates.Preservation.{upd_else}
use Rattle.mw_law_runs.proofs.Numbers.{same_or_other}
use Rattle.mw_law_store.specs.Due.{told}
use Rattle.mw_law_store.specs.Refinement.{changes_of_tenant, told_of}

-- A move is for this tenant: if it sets a door, it is this tenant's; if it acts on a change, the change is one of this tenant.
abbrev pub IsFor : ℕ → State → Move → Type 0
IsFor tenant state (SetDoor one door) = one ≡ tenant
IsFor tenant state (Claim own gate one request entries) = one ≡ tenant
IsFor tenant state (Prepare target) = state.history.tenant target.slot target.seq ≡ tenant
IsFor tenant state (SayYes target) = state.history.tenant target.slot target.seq ≡ tenant
IsFor tenant state (SayNo target entry value) = state.history.tenant target.slot target.seq ≡ tenant
IsFor tenant state (Seal target) = state.history.tenant target.slot target.seq ≡ tenant
IsFor tenant state (Settle target) = state.history.tenant target.slot target.seq ≡ tenant
IsFor tenant state (Cancel target entry value) = state.history.tenant target.slot target.seq ≡ tenant
IsFor tenant state (DecideFault target) = state.history.tenant target.slot target.seq ≡ tenant
IsFor tenant state move = Unit {0}

-- several moves, one after the other, are for this tenant
abbrev pub AllFor : ℕ → State → ℕ → List Move → Type 0
AllFor tenant state by [] = Unit {0}
AllFor tenant state by (move ∷ moves) = IsFor tenant state move × AllFor tenant (made state by move) by moves

-- A tenant's changes are as they were.
pub record SameFor (tenant : ℕ) (old new : State) : Type 0 where
  pub was : (slot seq : ℕ) → (changes_of_tenant new.history tenant).is_of slot seq → (changes_of_tenant old.history tenant).is_of slot seq
  pub still : (slot seq : ℕ) → (changes_of_tenant old.history tenant).is_of slot seq → (changes_of_tenant new.history tenant).is_of slot seq
  pub request : (slot seq : ℕ) → (changes_of_tenant old.history tenant).is_of slot seq → new.history.request slot seq ≡ old.history.request slot seq
  pub change : (slot seq : ℕ) → (changes_of_tenant old.history tenant).is_of slot seq → new.history.change slot seq ≡ old.history.change slot seq
  pub tells : (slot seq : ℕ) → (changes_of_tenant old.history tenant).is_of slot seq → told_of new.history slot seq ≡ told_of old.history slot seq

same_for_both : (tenant : ℕ) (first second third : State) → SameFor tenant first second → SameFor tenant second third → SameFor tenant first third
same_for_both tenant first second third one two = record {
  was = λ slot seq is. one.was slot seq (two.was slot seq is);
  still = λ slot seq is. two.still slot seq (one.still slot seq is);
  request = λ slot seq is. two.request slot seq (one.still slot seq is) ∙ one.request slot seq is;
  change = λ slot seq is. two.change slot seq (one.still slot seq is) ∙ one.change slot seq is;
  tells = λ slot seq is. two.tells slot seq (one.still slot seq is) ∙ one.tells slot seq is;
}

-- two places are the same, or they are not
same_place : (i j k l : ℕ) → ((k ≡ i) × (l ≡ j)) ⊎ (k ≡ i → l ≡ j → ⊥)
same_place i j k l = by_first (same_or_other k i) (same_or_other l j)
  where
    by_first : (k ≡ i) ⊎ (k ≢ i) → (l ≡ j) ⊎ (l ≢ j) → ((k ≡ i) × (l ≡ j)) ⊎ (k ≡ i → l ≡ j → ⊥)
    by_first (inl one) (inl two) = inl (one, two)
    by_first (inl one) (inr apart) = inr (λ e f. apart f)
    by_first (inr apart) second = inr (λ e f. apart e)

-- a map that is set at another place
upd_two_apart : {A : Type 0} (f : ℕ → ℕ → A) (i j k l : ℕ) (x : A) → (k ≡ i → l ≡ j → ⊥) → upd_two f i j x k l ≡ f k l
upd_two_apart f i j k l x apart = by_first (same_or_other k i) (same_or_other l j)
  where
    by_first : (k ≡ i) ⊎ (k ≢ i) → (l ≡ j) ⊎ (l ≢ j) → upd_two f i j x k l ≡ f k l
    by_first (inl one) (inl two) = absurd (apart one two)
    by_first (inl one) (inr other) = grind (arith, nat_tests, one, other)
    by_first (inr other) second = grind (arith, nat_tests, other)

module _ (state : State) (tenant other : ℕ) (differs : other ≢ tenant) where
  -- the changes of two tenants are at two places
  apart_from : (slot seq k l : ℕ) → state.history.tenant slot seq ≡ tenant → state.history.tenant k l ≡ other → k ≡ slot → l ≡ seq → ⊥
  apart_from slot seq k l its is e f = differs (grind (arith, nat_tests, its, is, e, f))

  fate_aside : (target : Slot) (status : Status) → state.history.tenant target.slot target.seq ≡ tenant → SameFor other state (decide state target status)
  fate_aside target status its = record {
    was = λ slot seq is. is;
    still = λ slot seq is. is;
    request = λ slot seq is. refl;
    change = λ slot seq is. refl;
    tells = λ slot seq is. ap (λ (fate : Status). told (state.history.is_fault_decided slot seq) fate (state.history.change slot seq))
        (upd_two_apart state.history.fate target.slot target.seq slot seq status (apart_from target.slot target.seq slot seq its is.1));
  }

  decide_fault_aside : (by : ℕ) (target : Slot) → state.history.tenant target.slot target.seq ≡ tenant → SameFor other state (made state by (DecideFault target))
  decide_fault_aside by target its = record {
    was = λ slot seq is. is;
    still = λ slot seq is. is;
    request = λ slot seq is. refl;
    change = λ slot seq is. refl;
    tells = λ slot seq is. ap (λ (fault_decided : Bool). told fault_decided (state.history.fate slot seq) (state.history.change slot seq))
        (upd_two_apart state.history.is_fault_decided target.slot target.seq slot seq true (apart_from target.slot target.seq slot seq its is.1));
  }

  module _ (config : Config) (memory : Memory config state) (by : ℕ) where
    claim_aside : (own : Slot) (gate : Gate) (request : ℕ) (entries : List Entry) → MayClaim config state own gate tenant entries → SameFor other state (made state by (Claim own gate tenant request entries))
    claim_aside own gate request entries guard = record {
      was = λ slot seq is. by_place slot seq (same_place own.slot own.seq slot seq) is;
      still = λ slot seq is. (same state.history.is_claimed true slot seq is ∙ is.0, same state.history.tenant tenant slot seq is ∙ is.1);
      request = λ slot seq is. same state.history.request request slot seq is;
      change = λ slot seq is. same state.history.change entries slot seq is;
      tells = λ slot seq is. ap (told (state.history.is_fault_decided slot seq) (state.history.fate slot seq)) (same state.history.change entries slot seq is);
    }
      where
        -- the slot was not claimed under this number before
        unborn : state.history.is_claimed own.slot own.seq ≡ true → ⊥
        unborn is = grind (arith, nat_tests, memory.claims.latest own.slot own.seq is, guard.was_free, guard.had_number)

        apart : (slot seq : ℕ) → state.history.is_claimed slot seq ≡ true → slot ≡ own.slot → seq ≡ own.seq → ⊥
        apart slot seq is e f = unborn (subst (λ (k : ℕ). state.history.is_claimed k own.seq ≡ true) e (subst (λ (l : ℕ). state.history.is_claimed slot l ≡ true) f is))

        same : {A : Type 0} (f : ℕ → ℕ → A) (x : A) (slot seq : ℕ) → (changes_of_tenant state.history other).is_of slot seq → upd_two f own.slot own.seq x slot seq ≡ f slot seq
        same f x slot seq is = upd_two_apart f own.slot own.seq slot seq x (apart slot seq is.0)

        by_place : (slot seq : ℕ) → ((slot ≡ own.slot) × (seq ≡ own.seq)) ⊎ (slot ≡ own.slot → seq ≡ own.seq → ⊥)
            → (upd_two state.history.is_claimed own.slot own.seq true slot seq ≡ true) × (upd_two state.history.tenant own.slot own.seq tenant slot seq ≡ other) → (changes_of_tenant state.history other).is_of slot seq
        by_place slot seq (inl here) is = absurd (differs (grind (arith, nat_tests, here.0, here.1, is.1)))
        by_place slot seq (inr elsewhere) is =
            (sym (upd_two_apart state.history.is_claimed own.slot own.seq slot seq true elsewhere) ∙ is.0, sym (upd_two_apart state.history.tenant own.slot own.seq slot seq tenant elsewhere) ∙ is.1)

    move_aside : (move : Move) → Guard config state by move → IsFor tenant state move → SameFor other state (made state by move)
    move_aside (Claim own gate one request entries) guard its =
        subst (λ (k : ℕ). MayClaim config state own gate k entries → SameFor other state (made state by (Claim own gate k request entries))) (sym its) (claim_aside own gate request entries) guard
    move_aside (Prepare target) guard its = fate_aside target Open its
    move_aside (SayYes target) guard its = fate_aside target YesDirty its
    move_aside (SayNo target entry value) guard its = fate_aside target (No entry value) its
    move_aside (Seal target) guard its = fate_aside target Yes its
    move_aside (Settle target) guard its = fate_aside target DoneYes its
    move_aside (Cancel target entry value) guard its = fate_aside target (DoneNo entry value) its
    move_aside (DecideFault target) guard its = decide_fault_aside by target its
    move_aside move guard its =
        record { was = λ slot seq is. is; still = λ slot seq is. is; request = λ slot seq is. refl; change = λ slot seq is. refl; tells = λ slot seq is. refl }

-- Moves for one tenant leave another's changes as they were.
pub moves_aside : (config : Config) (state : State) (by tenant other : ℕ) → other ≢ tenant → (moves : List Move) → Guards config state by moves → Memory config state → AllFor tenant state by moves
    → SameFor other state (made_all state by moves)
moves_aside config state by tenant other differs [] guards memory all =
    record { was = λ slot seq is. is; still = λ slot seq is. is; request = λ slot seq is. refl; change = λ slot seq is. refl; tells = λ slot seq is. refl }
moves_aside config state by tenant other differs (move ∷ moves) guards memory all =
    same_for_both other state (made state by move) (made_all state by (move ∷ moves)) (move_aside state tenant other differs config memory by move guards.0 all.0)
    (moves_aside config (made state by move) by tenant other differs moves guards.1 (move_keeps config state by move guards.0 memory) all.1)

-- They leave another tenant's door as it was, whatever they ask for.
move_doors : (state : State) (by tenant other : ℕ) → other ≢ tenant → (move : Move) → IsFor tenant state move → (made state by move).cells.doors other ≡ state.cells.doors other
move_doors state by tenant other differs (SetDoor one door) its = upd_else state.cells.doors one other door (λ same. differs (same ∙ its))
move_doors state by tenant other differs move its = refl

pub moves_doors : (state : State) (by tenant other : ℕ) → other ≢ tenant → (moves : List Move) → AllFor tenant state by moves → (made_all state by moves).cells.doors other ≡ state.cells.doors other
moves_doors state by tenant other differs [] all = refl
moves_doors state by tenant other differs (move ∷ moves) all =
    moves_doors (made state by move) by tenant other differs moves all.1 ∙ move_doors state by tenant other differs move all.0
