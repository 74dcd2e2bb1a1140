-- Two changes that are decided YES and not finished share no word. Used by: CallsCanBeMade, Tenants.
use Rattle.std.specs.Prelude.{ℕ, ◌≡◌, ◌≢◌, ◌⊎◌, ◌==◌, Bool, true, false, List, [], ◌∷◌, is_some}
use Rattle.std.specs.List.{list_any}
use Rattle.std.proofs.Common.{refl, sym, subst, inl, inr, arith}
use Rattle.std.proofs.lemmas.Bool.Decides.{nat_tests}
use Rattle.mw_words.specs.declared.jobs.Entry.{Entry}
use Rattle.mw_words.specs.declared.statuses.Status.{Status}
use Rattle.mw_words.specs.declared.statuses.Status.TheVariants.{YesDirty, Yes}
use Rattle.mw_words.specs.declared.words.Word.{Word}
use Rattle.mw_words.specs.declared.words.Word.TheVariants.{Held, Dirty}
use Rattle.mw_world.specs.Files.State.{share_a_word}
use Rattle.mw_world.specs.declared.config.Config.{Config}
use Rattle.mw_world.specs.declared.step_labels.Phase.{Phase}
use Rattle.mw_world.specs.declared.step_labels.Phase.TheVariants.{Fresh, Acquired, Written, Released}
use Rattle.mw_world.specs.Claim.Invariant.{MayBe}
use Rattle.mw_world.specs.Definition.History.{entry_for, has, new}
use Rattle.mw_world.specs.Definition.State.{State}
use Rattle.mw_law_runs.specs.Moves.Memory.{Memory}

-- no entry of these is of the word of this one
none_here : (one : Entry) (those : List Entry) → is_some (entry_for those one.addr) ≡ false → list_any (λ (other : Entry). other.addr == one.addr) those ≡ false
none_here one [] none = refl
none_here one (other ∷ those) none = grind (arith, nat_tests, none, none_here one those)

some_or_none : (b : Bool) → (b ≡ true) ⊎ (b ≡ false)
some_or_none true = inl refl
some_or_none false = inr refl

pub none_shared : (these those : List Entry) → ((address : ℕ) → is_some (entry_for these address) ≡ true → is_some (entry_for those address) ≡ true → ⊥) → share_a_word these those ≡ false
none_shared [] those apart = refl
none_shared (one ∷ these) those apart =
    both (none_here one those (by_test (some_or_none (is_some (entry_for those one.addr)))))
    (none_shared these those (λ address here there. apart address (grind (arith, nat_tests, here)) there))
  where
    by_test : ((is_some (entry_for those one.addr) ≡ true) ⊎ (is_some (entry_for those one.addr) ≡ false)) → is_some (entry_for those one.addr) ≡ false
    by_test (inl some) = absurd (apart one.addr (grind (arith, nat_tests)) some)
    by_test (inr none) = none

    both : list_any (λ (other : Entry). other.addr == one.addr) those ≡ false → share_a_word these those ≡ false → share_a_word (one ∷ these) those ≡ false
    both here there = grind (arith, here, there)

-- the change is decided to be made, and is not done with
abbrev pub IsUnderway : Status → Type 0
IsUnderway status = (status ≡ YesDirty) ⊎ (status ≡ Yes)

-- the word is held for the slot under this number, or names the slot
abbrev Names : Word → ℕ → ℕ → ℕ → Type 0
Names word slot seq value = (word ≡ Held slot seq) ⊎ (word ≡ Dirty slot value)

in_midst : (status : Status) (phase : Phase) → IsUnderway status → MayBe status phase → (phase ≡ Acquired) ⊎ (phase ≡ Written)
in_midst status phase (inl is) may = dirty phase (subst (λ (one : Status). MayBe one phase) is may)
  where
    dirty : (phase : Phase) → MayBe YesDirty phase → (phase ≡ Acquired) ⊎ (phase ≡ Written)
    dirty Acquired may = inl refl
    dirty Fresh may = absurd may
    dirty Written may = absurd may
    dirty Released may = absurd may
in_midst status phase (inr is) may = made phase (subst (λ (one : Status). MayBe one phase) is may)
  where
    made : (phase : Phase) → MayBe Yes phase → (phase ≡ Acquired) ⊎ (phase ≡ Written)
    made Acquired may = inl refl
    made Written may = inr refl
    made Fresh may = absurd may
    made Released may = absurd may

module _ (config : Config) (state : State) (memory : Memory config state) where
  named : (slot seq address : ℕ) → IsUnderway (state.history.fate slot seq) → has state.history slot seq address ≡ true
      → Names (state.cells.words (state.history.tenant slot seq) address) slot seq (new state.history slot seq address)
  named slot seq address is entry = by_phase (in_midst (state.history.fate slot seq) (state.history.phase slot seq address) is (memory.words.allowed slot seq address entry))
    where
      by_phase : (state.history.phase slot seq address ≡ Acquired) ⊎ (state.history.phase slot seq address ≡ Written)
          → Names (state.cells.words (state.history.tenant slot seq) address) slot seq (new state.history slot seq address)
      by_phase (inl acquired) = inl (memory.words.acquired slot seq address acquired)
      by_phase (inr was_written) = inr (memory.words.was_written slot seq address was_written)

  same_slot : (word : Word) (slot seq value other number written : ℕ) → Names word slot seq value → Names word other number written → slot ≡ other
  same_slot word slot seq value other number written (inl one) (inl two) = grind (arith, one, two)
  same_slot word slot seq value other number written (inl one) (inr two) = grind (arith, one, two)
  same_slot word slot seq value other number written (inr one) (inl two) = grind (arith, one, two)
  same_slot word slot seq value other number written (inr one) (inr two) = grind (arith, one, two)

  -- two such changes of one tenant, in two slots, have no word in common
  pub two_apart : (slot seq other number : ℕ) → slot ≢ other → state.history.tenant slot seq ≡ state.history.tenant other number
      → IsUnderway (state.history.fate slot seq) → IsUnderway (state.history.fate other number)
      → share_a_word (state.history.change slot seq) (state.history.change other number) ≡ false
  two_apart slot seq other number apart same one two =
      none_shared (state.history.change slot seq) (state.history.change other number) (λ address here there.
      apart (same_slot (state.cells.words (state.history.tenant slot seq) address) slot seq (new state.history slot seq address) other number (new state.history other number address)
      (named slot seq address one here)
      (subst (λ (tenant : ℕ). Names (state.cells.words tenant address) other number (new state.history other number address)) (sym same) (named other number address two there))))
