-- Defines the text of the administrator's report: a table of the tenants, and how many slots of the pool are free.
-- Used by: many crates from mw_plain on, table.rt. A change here changes the REPORT: docs/PROTOCOL, mw_client, and
-- the reader of a report in each language of clients/ (C, Go, Java, Node, Python, Rust).
use Rattle.std.specs.Prelude.{ℕ, ◌-◌, ◌≤◌, ◌++◌, All, Bool, List, length, replicate, flat_map, codes, decimal, if◌then◌else◌}
use Rattle.mw_words.specs.declared.limits.TheConstants.{MAX_NAME, MAX_PLACES, MAX_POOL, MAX_QUOTA, MAX_TENANTS, MAX_WORDS}
use Rattle.mw_report.specs.declared.figures.TenantFigures.{TenantFigures}

-- so many spaces
abbrev pub spaces : ℕ → List ℕ
spaces count = replicate count 32

-- a text at the left of a column of this width
unfoldable pub at_left : ℕ → List ℕ → List ℕ
at_left width text = text ++ spaces (width - length text)

-- a number at the right of a column of this width
unfoldable pub at_right : ℕ → ℕ → List ℕ
at_right width number = spaces (width - length (decimal number)) ++ decimal number

-- whether the tenant's file takes changes
abbrev pub state : Bool → List ℕ
state up = if up then codes "up" else codes "down"

-- A tenant's line: its name, its words, its quota, the record places of its file, its slots in use and its state, with
-- a space between two columns.
abbrev pub tenant_line : TenantFigures → List ℕ
tenant_line t =
    at_left MAX_NAME t.name.items ++ codes " " ++ at_right 4 t.words ++ codes " " ++ at_right 2 t.quota ++ codes " " ++ at_right 2 t.places
    ++ codes " " ++ at_right 2 t.used ++ codes " " ++ state t.up ++ codes "\n"

-- the last line: how many slots of the pool are free
abbrev pub free_line : ℕ → List ℕ
free_line pool_free = codes "free " ++ decimal pool_free ++ codes "\n"

-- the report: a line for each tenant in their order, and the last line
abbrev pub report : List TenantFigures → ℕ → List ℕ
report tenants pool_free = flat_map tenant_line tenants ++ free_line pool_free

-- a tenant's figures keep the limits
pub record IsWithinLimits (t : TenantFigures) : Type 0 where
  pub words : t.words ≤ MAX_WORDS
  pub quota : t.quota ≤ MAX_QUOTA
  pub places : t.places ≤ MAX_PLACES
  pub used : t.used ≤ MAX_QUOTA

-- all figures keep the limits
pub record AreWithinLimits (tenants : List TenantFigures) (pool_free : ℕ) : Type 0 where
  pub few : length tenants ≤ MAX_TENANTS
  pub each : All IsWithinLimits tenants
  pub free : pool_free ≤ MAX_POOL
