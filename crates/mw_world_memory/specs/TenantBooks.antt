-- States what always holds of the books of a world's tenants in memory: each represents a file of the model that has as many
-- words as its tenant.
-- Used by: mw_simulator.
use Rattle.std.specs.Prelude.{ℕ, ◌≡◌, List, slice_get, Some}
use Rattle.mw_world_file.specs.SoundBooks.{HasSound}
use Rattle.mw_world.specs.declared.config.Config.{Config}
use Rattle.mw_world.specs.Definition.State.{tenant_at}
use Rattle.mw_world_memory.specs.declared.tenants.TenantState.{TenantState as TenantStateInMemory}

-- each tenant in memory has a book that represents its file, with as many words as the tenant
abbrev pub AreSound : Config → List TenantStateInMemory → Type 0
AreSound config tenant_states = (tenant : ℕ) (shown : TenantStateInMemory) → slice_get tenant_states tenant ≡ Some shown → HasSound (tenant_at config tenant).words shown.book
