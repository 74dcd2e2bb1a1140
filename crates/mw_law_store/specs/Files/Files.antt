-- Defines `HasFiles`: the shared words agree with each tenant's file, and each change in a file has a record place of its own
-- there.
-- Used by: mw_rule.
use Rattle.std.specs.Prelude.{ℕ, ◌≡◌, List, length, is_none, Option}
use Rattle.mw_world.specs.Files.Restarts.{opened_file}
use Rattle.mw_world.specs.declared.config.Config.{Config}
use Rattle.mw_world.specs.Claim.Invariant.{FilesMatch, ChangesHavePlaces}
use Rattle.mw_world.specs.Definition.State.{State, TenantState, tenant_at}

-- how many places of its file a tenant in this state may use: its quota
abbrev pub places_in : Config → ℕ → TenantState → ℕ
places_in config tenant tenant_state = tenant_state.quota

-- how many places of its file a tenant of a world may use
abbrev pub places_of : Config → State → ℕ → ℕ
places_of config state tenant = places_in config tenant (state.tenant_states tenant)

-- The shared words agree with each tenant's file, and each change that is in its tenant's file has a place of its own there.
pub record HasFiles (config : Config) (state : State) : Type 0 where
  pub told : FilesMatch config state
  pub places : ChangesHavePlaces config state

-- A tenant's file was just opened: it has the words that were found, as many as the tenant has. It has failed, and the tenant is
-- down, if a device call of the opening failed.
pub record IsOpened (config : Config) (tenant : ℕ) (tenant_state : TenantState) : Type 0 where
  pub found : List ℕ
  pub fails_at : Option ℕ
  pub file : tenant_state.file ≡ opened_file found fails_at
  pub is_up : tenant_state.is_up ≡ is_none fails_at
  pub long : length found ≡ (tenant_at config tenant).words
