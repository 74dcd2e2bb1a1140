-- Defines how many record places a tenant's first file has.
-- Used by: mw_world_file, mw_simulator.
use Rattle.std.specs.Prelude.{ℕ, ◌*◌, if◌then◌else◌, nat_le}
use Rattle.mw_record.specs.declared.layout.TheConstants.{PLACES_GROW}
use Rattle.mw_words.specs.declared.limits.TheConstants.{MAX_PLACES}

-- With this quota: PLACES_GROW (2) for each slot of the quota, and at most MAX_PLACES. An old file, which no start has
-- opened yet, has one place for each slot; the start that opens it gives it as many as this.
abbrev pub first_places : ℕ → ℕ
first_places quota = if nat_le (PLACES_GROW * quota) MAX_PLACES then PLACES_GROW * quota else MAX_PLACES
