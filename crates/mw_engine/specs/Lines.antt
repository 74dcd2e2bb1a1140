-- Defines the tenants' lines as an engine keeps them, with how many places for changes each tenant's file has.
-- Used by: src/new_parts.rt, src/tenant_words.rt.
use Rattle.std.specs.Prelude.{◌≤◌, ℕ, All, List}
use Rattle.mw_words.specs.declared.limits.TheConstants.{MAX_PLACES}
use Rattle.mw_engine.specs.declared.tenant_line.Listed.{Listed}
use Rattle.mw_engine.specs.Identity.{Line}

-- what is kept of a tenant's line
abbrev pub line_of : Listed → Line
line_of listed = record { name = listed.name.items; words = listed.words; quota = listed.quota }

-- how many places for changes the tenant's file has, as kept
abbrev pub places_of : Listed → ℕ
places_of listed = listed.places

-- no file has more than `MAX_PLACES` places
abbrev pub HasFewPlaces : List Listed → Type 0
HasFewPlaces lines = All (λ listed. listed.places ≤ MAX_PLACES) lines
