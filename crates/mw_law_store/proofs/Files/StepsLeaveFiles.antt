-- A step keeps `HasFiles` (the shared words agree with the tenants' files) if it leaves the faults of doors, the values of
-- words, the tenants' files, and what is due to each slot there.
-- Used by: ArrivalsAndStarts, CallFiles, MovesKeepFiles, among others.
use Rattle.std.specs.Prelude.{ℕ, ◌≡◌, ◌≢◌, ◌⊎◌, Bool}
use Rattle.std.proofs.Common.{refl, sym, subst, ◌∙◌, inl, inr}
use Rattle.mw_world.specs.Files.State.{File}
use Rattle.mw_world.specs.Maps.{upd}
use Rattle.mw_world.specs.declared.config.Config.{Config}
use Rattle.mw_world.specs.Definition.Logical.{logical}
use Rattle.mw_world.specs.Definition.State.{State, TenantState, tenant_at}
use Rattle.mw_law_runs.proofs.Knowledge.Updates.Preservation.{upd_here, upd_else}
use Rattle.mw_law_runs.proofs.Numbers.{same_or_other}
use Rattle.mw_law_store.specs.Files.Files.{places_in, places_of}
use Rattle.mw_law_store.proofs.Files.PlacesBySlot.{ArePlaced, same_due}
use Rattle.mw_law_store.proofs.Files.Tenants.{Agrees, AreFiled, IsFiled, due}

-- Two worlds agree on what is due to slots, on the faults of doors and on values.
pub record TellsSame (old new : State) : Type 0 where
  pub dues : (tenant slot : ℕ) → due new tenant slot ≡ due old tenant slot
  pub faults : (tenant : ℕ) → (new.cells.doors tenant).fault ≡ (old.cells.doors tenant).fault
  pub values : (tenant address : ℕ) → logical new.cells tenant address ≡ logical old.cells tenant address

-- Two states of a tenant have the same file, which opened in both or in neither, and may use as many places.
pub record SameTenantState (config : Config) (tenant : ℕ) (one other : TenantState) : Type 0 where
  pub file : one.file ≡ other.file
  pub is_up : one.is_up ≡ other.is_up
  pub places : places_in config tenant one ≡ places_in config tenant other

-- a file agrees with values and a fault that are the same
pub agrees_same : (words : ℕ) (fault other : Bool) (is_up was_up : Bool) (values were : ℕ → ℕ) (file : File) → other ≡ fault → was_up ≡ is_up → ((address : ℕ) → were address ≡ values address)
    → Agrees words fault is_up values file → Agrees words other was_up were file
agrees_same words fault other is_up was_up values were file same up told agrees = record {
  long = agrees.long;
  failed = agrees.failed ∙ sym same;
  down = λ is. agrees.down (sym up ∙ is);
  certain = agrees.certain;
  shown = λ is address low. told address ∙ agrees.shown (sym up ∙ is) address low;
}

module _ (config : Config) (old new : State) where
  pub filed_same : (tenant : ℕ) → ((slot : ℕ) → due new tenant slot ≡ due old tenant slot) → (new.cells.doors tenant).fault ≡ (old.cells.doors tenant).fault
      → ((address : ℕ) → logical new.cells tenant address ≡ logical old.cells tenant address) → SameTenantState config tenant (new.tenant_states tenant) (old.tenant_states tenant) → IsFiled config old tenant → IsFiled config new tenant
  filed_same tenant dues fault values tenant_state filed = record {
    agrees =
        let words = (tenant_at config tenant).words in
        subst (λ (file : File). Agrees words (new.cells.doors tenant).fault (new.tenant_states tenant).is_up (logical new.cells tenant) file) (sym tenant_state.file)
        (agrees_same words (old.cells.doors tenant).fault (new.cells.doors tenant).fault (old.tenant_states tenant).is_up (new.tenant_states tenant).is_up (logical old.cells tenant) (logical new.cells tenant)
        (old.tenant_states tenant).file fault tenant_state.is_up values filed.agrees);
    places =
        subst (λ (file : File). ArePlaced (places_of config new tenant) (due new tenant) file) (sym tenant_state.file)
        (subst (λ (places : ℕ). ArePlaced places (due new tenant) (old.tenant_states tenant).file) (sym tenant_state.places)
        (same_due (places_of config old tenant) (due old tenant) (due new tenant) (old.tenant_states tenant).file filed.places dues));
  }

  pub all_filed_same : TellsSame old new → ((tenant : ℕ) → SameTenantState config tenant (new.tenant_states tenant) (old.tenant_states tenant)) → AreFiled config old → AreFiled config new
  all_filed_same same tenant_states filed tenant low = filed_same tenant (same.dues tenant) (same.faults tenant) (same.values tenant) (tenant_states tenant) (filed tenant low)

-- a tenant's state that is the same
pub tenant_state_as : (config : Config) (tenant : ℕ) (one other : TenantState) → one ≡ other → SameTenantState config tenant one other
tenant_state_as config tenant one other is = subst (λ (tenant_state : TenantState). SameTenantState config tenant tenant_state other) (sym is) (record { file = refl; is_up = refl; places = refl })

-- another state of a tenant, with the same file
pub same_tenant_state : (config : Config) (tenant_states : ℕ → TenantState) (tenant other : ℕ) (tenant_state : TenantState) → SameTenantState config tenant tenant_state (tenant_states tenant)
    → SameTenantState config other (upd tenant_states tenant tenant_state other) (tenant_states other)
same_tenant_state config tenant_states tenant other tenant_state same = by_tenant (same_or_other other tenant)
  where
    by_tenant : (other ≡ tenant) ⊎ (other ≢ tenant) → SameTenantState config other (upd tenant_states tenant tenant_state other) (tenant_states other)
    by_tenant (inl is) =
        subst (λ (one : ℕ). SameTenantState config one (upd tenant_states tenant tenant_state one) (tenant_states one)) (sym is)
        (subst (λ (one : TenantState). SameTenantState config tenant one (tenant_states tenant)) (sym (upd_here tenant_states tenant tenant_state)) same)
    by_tenant (inr apart) = tenant_state_as config other (upd tenant_states tenant tenant_state other) (tenant_states other) (upd_else tenant_states tenant other tenant_state apart)
