-- The simulated files stay sound (each represents a file with its tenant's number of words) at every change of the simulated
-- world.
-- Used by: World::new, restart, file, begin, enter, among others.
use Rattle.std.specs.Prelude.{ℕ, ◌≡◌, ◌<◌, List, length, slice_index_or, slice_set}
use Rattle.std.proofs.Common.{subst, sym}
use Rattle.std.proofs.Math.Logic.{∥∥₁_elim}
use Rattle.std.specs.Coded.{Coded-set, coded_ℕ}
use Rattle.mw_world_file.specs.SoundBooks.{HasSound}
use Rattle.mw_world_file.proofs.SoundBooks.{sound_by}
use Rattle.mw_world.specs.declared.config.Config.{Config}
use Rattle.mw_world.specs.Definition.State.{tenant_at, tenants_of}
use Rattle.mw_world_memory.specs.declared.tenants.TenantState.{TenantState as TenantStateInMemory}
use Rattle.mw_simulator.specs.Starts.{AreFresh, AreTenants}
use Rattle.mw_world_memory.specs.TenantBooks.{AreSound}
use Rattle.mw_simulator.proofs.WorldAfterStep.{element, set_keeps_at}
use Rattle.mw_simulator.proofs.FirstWorlds.{first_tenant_states, fresh_shown}

-- each tenant has as many words as the configuration says
pub sound_tenants : (config : Config) (tenant_states : List TenantStateInMemory) → length tenant_states ≡ tenants_of config → AreSound config tenant_states → AreTenants config tenant_states
sound_tenants config tenant_states one_each all = record {
  one_each = one_each;
  as_long = λ tenant shown is. ∥∥₁_elim (all tenant shown is) (Coded-set coded_ℕ _ _) (λ one. one.long);
}

-- new tenants' books
pub fresh_sound : (config : Config) (tenant_states : List TenantStateInMemory) → AreFresh config.tenants.items tenant_states → AreSound config tenant_states
fresh_sound config tenant_states fresh tenant shown is =
    let one = fresh_shown config tenant_states fresh tenant shown is in
    sound_by (tenant_at config tenant).words shown.book (first_tenant_states config tenant).file one.book one.words_are

-- a tenant gets another book
pub sound_set : (config : Config) (tenant_states : List TenantStateInMemory) (place : ℕ) (after : TenantStateInMemory) → place < length tenant_states → HasSound (tenant_at config place).words after.book
    → AreSound config tenant_states → AreSound config (slice_set tenant_states place after)
sound_set config tenant_states place after there here sound =
    set_keeps_at (λ k (tenant_state : TenantStateInMemory) (n : ℕ). HasSound (tenant_at config k).words tenant_state.book) tenant_states (λ k. k) place after there here sound

-- a tenant is changed, but not its book
pub sound_stays : (config : Config) (tenant_states : List TenantStateInMemory) (place : ℕ) (was after : TenantStateInMemory) → place < length tenant_states → was ≡ slice_index_or tenant_states place was
    → after.book ≡ was.book → AreSound config tenant_states → AreSound config (slice_set tenant_states place after)
sound_stays config tenant_states place was after there is same sound =
    sound_set config tenant_states place after there (subst (λ book. HasSound (tenant_at config place).words book) (sym same) (sound place was (element tenant_states place was there is))) sound
