-- Defines when a pass may read a word: in the race of two changes, and on the table of two tenants.
-- Used by: src/neighbour_tests.rt, src/race_tests.rt.
use Rattle.std.specs.Prelude.{ℕ, ◌≡◌, ◌≤◌, ◌<◌, true}
use Rattle.mw_world.specs.Definition.State.{tenant_at, tenants_of}
use Rattle.mw_core.specs.FromTable.{IsOf, Pass, Shared, config_of, opening_at, openings_of}

-- The pass is worker 2's and idle, on a table of three slots. Tenant 0 has two words and this quota.
pub record MayRead (shared : Shared) (quota : ℕ) (pass : Pass) : Type 0 where
  pub own : IsOf shared pass
  pub worker : pass.worker ≡ 2
  pub idle : pass.idle ≡ true
  pub tenants : 1 ≤ tenants_of (config_of shared.table.shared.key)
  pub words : (tenant_at (config_of shared.table.shared.key) 0).words ≡ 2
  pub quota_is : (opening_at (openings_of shared.table.shared.key) 0).quota ≡ quota
  pub pool : (config_of shared.table.shared.key).pool ≡ 3

-- The pass is idle, on a table of two slots. The tenant is there, has one word and may use one slot.
pub record MayGet (shared : Shared) (pass : Pass) (tenant : ℕ) : Type 0 where
  pub own : IsOf shared pass
  pub idle : pass.idle ≡ true
  pub worker : pass.worker < 2
  pub there : tenant < tenants_of (config_of shared.table.shared.key)
  pub word : (tenant_at (config_of shared.table.shared.key) tenant).words ≡ 1
  pub quota : (opening_at (openings_of shared.table.shared.key) tenant).quota ≡ 1
  pub pool : (config_of shared.table.shared.key).pool ≡ 2
