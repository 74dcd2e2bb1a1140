-- Defines the text that says whether all tenants are up, and no file was replaced.
-- Used by: health.rt. A change here changes what checks of a server read: docs/HTTP changes with it.
use Rattle.std.specs.Prelude.{ℕ, ◌++◌, Bool, false, not, List, [], flat_map, codes, if◌then◌else◌}
use Rattle.std.specs.List.{list_all}
use Rattle.mw_metrics.specs.declared.figures.TenantMetrics.{TenantMetrics}
use Rattle.mw_metrics.specs.Figures.{is_lost, is_up}

-- whether the tenant is up, and its file is the one that was opened
abbrev pub is_well : TenantMetrics → Bool
is_well t = if is_up t then not (is_lost t.place) else false

-- the word for a tenant that is not well
abbrev pub state : TenantMetrics → List ℕ
state t = if is_up t then codes "replaced" else codes "down"

-- the line of a tenant that is down, or whose file was replaced; none of one that is well
abbrev pub unwell_line : TenantMetrics → List ℕ
unwell_line t = if is_well t then [] else state t ++ codes " " ++ t.figures.name.items ++ codes "\n"

-- the lines of all tenants that are not well
abbrev pub unwell_lines : List TenantMetrics → List ℕ
unwell_lines tenants = flat_map unwell_line tenants

-- the text: ok, or which tenants are down, and which have a file that was replaced
unfoldable pub health : List TenantMetrics → List ℕ
health tenants = if list_all is_well tenants then codes "ok\n" else unwell_lines tenants
