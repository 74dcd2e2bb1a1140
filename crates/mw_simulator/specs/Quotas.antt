-- Defines the quotas that a start gives the tenants of a simulated world. Used by: src/world/restarts.rt, mwreplay.
use Rattle.std.specs.Prelude.{ℕ, ◌≡◌, ◌≤◌, List, slice_get, Option, Some}
use Rattle.std.specs.Option.{option_map_or, unwrap_or}
use Rattle.mw_world_file.specs.Books.{places_of_file}
use Rattle.mw_world.specs.declared.events.Stop.{Stop}
use Rattle.mw_world_memory.specs.declared.tenants.TenantState.{TenantState as TenantStateInMemory}
use Rattle.mw_simulator.specs.Events.{outage_of}

-- the quota that a start gives a tenant in memory: the one that its stop says, else the one before
abbrev pub quota_after : Option ℕ → TenantStateInMemory → ℕ
quota_after told shown = unwrap_or told shown.quota

-- the quotas that a start gives these tenants in memory; 0 past the last tenant
abbrev pub quotas_in : List TenantStateInMemory → List Stop → ℕ → ℕ
quotas_in tenant_states stops tenant = option_map_or (quota_after (outage_of stops tenant).quota) (slice_get tenant_states tenant) 0

-- how many places these tenants' files have; 0 past the last tenant
abbrev pub places_in : List TenantStateInMemory → ℕ → ℕ
places_in tenant_states tenant = option_map_or (λ shown. places_of_file shown.book) (slice_get tenant_states tenant) 0

-- each tenant's file has at least as many places as the quota that a start gives the tenant
abbrev pub HaveRoom : List TenantStateInMemory → List Stop → Type 0
HaveRoom tenant_states stops = (tenant : ℕ) (shown : TenantStateInMemory) → slice_get tenant_states tenant ≡ Some shown → quota_after (outage_of stops tenant).quota shown ≤ places_of_file shown.book
