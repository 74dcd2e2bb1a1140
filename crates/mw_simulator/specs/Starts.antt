-- Defines the workers and the tenants of a simulated world at a start. Used by: src/world/new_worlds.rt.
use Rattle.std.specs.Prelude.{ℕ, ◌≡◌, Bool, not, List, length, slice_get, Some}
use Rattle.mw_world_file.specs.StartValues.{IsGiven}
use Rattle.mw_world.specs.declared.config.Config.{Config}
use Rattle.mw_world.specs.declared.config.Tenant.{Tenant}
use Rattle.mw_world.specs.Definition.State.{TenantState, tenant_state_at, first_opening_of, idle_worker_state, tenant_at, tenants_of}
use Rattle.mw_world_memory.specs.declared.tenants.TenantState.{TenantState as TenantStateInMemory}
use Rattle.mw_world_memory.specs.declared.workers.WorkerState.{WorkerState as WorkerStateInMemory}
use Rattle.mw_world_memory.specs.Openings.{Openings}
use Rattle.mw_world_memory.specs.Workers.{worker_state_of}
use Rattle.mw_simulator.specs.Representation.{RepresentsTenant}

-- the relation holds of each index of a list and the element there
abbrev pub Each : {A : Type 0} → (ℕ → A → Type 0) → List A → Type 0
Each {A} P xs = (index : ℕ) (x : A) → slice_get xs index ≡ Some x → P index x

-- the relation holds of each index below both lengths and the two elements there
abbrev pub EachOf : {A B : Type 0} → (ℕ → A → B → Type 0) → List A → List B → Type 0
EachOf {A} {B} R xs ys = Each (λ index y. (x : A) → slice_get xs index ≡ Some x → R index x y) ys

-- there are this many workers, and none has a request
pub record AreIdle (workers : ℕ) (worker_states : List WorkerStateInMemory) : Type 0 where
  pub count : length worker_states ≡ workers
  pub each : Each (λ worker worker_state. worker_state_of worker_state ≡ idle_worker_state) worker_states

-- a tenant of a new world
abbrev pub fresh : Tenant → TenantState
fresh tenant = tenant_state_at (first_opening_of tenant)

-- a tenant in memory represents this tenant of a new world
abbrev pub IsFresh : Tenant → TenantStateInMemory → Type 0
IsFresh tenant shown = RepresentsTenant tenant.words shown (fresh tenant)

-- there is one tenant in memory for each of these tenants, as it is at first
pub record AreFresh (tenants : List Tenant) (tenant_states : List TenantStateInMemory) : Type 0 where
  pub count : length tenant_states ≡ length tenants
  pub each : EachOf (λ tenant of shown. IsFresh of shown) tenants tenant_states

-- there is one opening for each tenant in memory, which its file gave
pub record AreGiven (tenant_states : List TenantStateInMemory) (openings : Openings) : Type 0 where
  pub count : length openings ≡ length tenant_states
  pub each : EachOf (λ tenant shown opening. IsGiven shown.book opening) tenant_states openings

-- there is one tenant in memory for each tenant of the configuration, with as many words
pub record AreTenants (config : Config) (tenant_states : List TenantStateInMemory) : Type 0 where
  pub one_each : length tenant_states ≡ tenants_of config
  pub as_long : Each (λ tenant shown. length shown.book.contents.items ≡ (tenant_at config tenant).words) tenant_states

-- these are the words of the tenants' files, and `is_up` says whose files haven't failed
abbrev pub HaveWords : List TenantStateInMemory → (ℕ → List ℕ) → (ℕ → Bool) → Type 0
HaveWords tenant_states words is_up = Each (λ tenant shown. (shown.book.contents.items ≡ words tenant) × (is_up tenant ≡ not shown.book.has_failed)) tenant_states
