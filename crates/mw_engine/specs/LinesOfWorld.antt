-- Defines that the lines that an engine keeps agree with the world of its shared words.
-- Used by: src/figures.rt, src/tenant_words.rt, mw_service.
use Rattle.std.specs.Prelude.{◌≡◌, ◌<◌, ℕ, List, length, slice_get, if◌then◌else◌, Some}
use Rattle.mw_world.specs.declared.config.Config.{Config}
use Rattle.mw_world.specs.Definition.State.{TenantStart, tenant_at, tenants_of}
use Rattle.mw_core.specs.FromTable.{Origin, config_of, opening_at, openings_of}
use Rattle.mw_engine.specs.Identity.{Line}

-- a tenant's line: its name and words by the world's configuration, its quota by the latest start
abbrev pub line_given : Config → List TenantStart → ℕ → Line
line_given config openings tenant = record { name = (tenant_at config tenant).name.items; words = (tenant_at config tenant).words; quota = (opening_at openings tenant).quota }

-- how many places for changes a tenant's file has, by what the start gave; 0 if the file didn't open
abbrev pub places_told : TenantStart → ℕ
places_told given = if given.is_up then given.places else 0

-- The lines agree with the world: there is one for each tenant, each is the one given, and the pool has so many slots.
pub record Agrees (origin : Origin) (lines : List Line) (pool : ℕ) : Type 0 where
  pub count : length lines ≡ tenants_of (config_of origin)
  pub each : (tenant : ℕ) → tenant < length lines → slice_get lines tenant ≡ Some (line_given (config_of origin) (openings_of origin) tenant)
  pub slots : pool ≡ (config_of origin).pool
