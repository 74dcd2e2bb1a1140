-- Defines the status page: HTML. How it looks and its script are constants of their own.
-- Used by: status.rt, tenant_rows.rt. A change here changes what the browser shows.
use Rattle.std.specs.Prelude.{ℕ, ◌++◌, List, [], flat_map, codes, decimal, Option, Some, None, if◌then◌else◌}
use Rattle.std.specs.List.{list_all}
use Rattle.mw_metrics.specs.declared.figures.TenantMetrics.{TenantMetrics}
use Rattle.mw_server_pages.specs.declared.limits.Limit.{Limit}
use Rattle.mw_server_pages.specs.declared.recents.Recent.{Recent}
use Rattle.mw_server_pages.specs.Escapes.{escaped}
use Rattle.mw_server_pages.specs.Health.{is_well, state as unwell_state}
use Rattle.mw_server_pages.specs.Limits.{limits}
use Rattle.mw_server_pages.specs.Recents.{recents}
use Rattle.mw_server_pages.specs.Spans.{span}

-- What comes before the body. Its style and its script are files of their own, and nothing else is loaded. Without a script a browser
-- asks again every ten seconds.
unfoldable pub front : List ℕ
front =
    codes "<!DOCTYPE html>\n<html lang=\"en\">\n<head>\n<meta charset=\"utf-8\">\n<meta name=\"viewport\" content=\"width=device-width\">\n<meta http-equiv=\"Content-Security-Policy\" content=\"default-src 'self'\">\n<noscript><meta http-equiv=\"refresh\" content=\"10\"></noscript>\n<title>Mondlexi</title>\n<link rel=\"stylesheet\" href=\"status.css\">\n<script src=\"status.js\" defer></script>\n</head>\n<body>\n<h1>Mondlexi</h1>\n<div id=\"state\">\n"

-- the version, and how long the server is up
unfoldable pub about : List ℕ → ℕ → List ℕ
about version seconds = codes "<p>Version " ++ escaped version ++ codes ", up for " ++ span seconds ++ codes ".</p>\n"

-- how old the last beat of the lease is that went well; nothing if there is no lease
unfoldable pub lease_line : Option ℕ → List ℕ
lease_line None = []
lease_line (Some seconds) = codes "<p>Seconds since the last beat of the lease began: " ++ decimal seconds ++ codes ".</p>\n"

-- the name and the state of a tenant that is not well, after a space
unfoldable pub unwell_name : TenantMetrics → List ℕ
unwell_name t = if is_well t then [] else codes " " ++ escaped t.figures.name.items ++ codes " (" ++ unwell_state t ++ codes ")"

-- which tenants are not well, of which there are some
unfoldable pub unwell : List TenantMetrics → List ℕ
unwell tenants = codes "<p class=\"down\">Not well:" ++ flat_map unwell_name tenants ++ codes ".</p>\n"

-- whether all tenants are well, or which are not and why
unfoldable pub summary : List TenantMetrics → List ℕ
summary tenants = if list_all is_well tenants then codes "<p class=\"up\">All tenants are up.</p>\n" else unwell tenants

-- the state of a tenant: up, or why it is not well
abbrev pub state_of : TenantMetrics → List ℕ
state_of t = if is_well t then codes "up" else unwell_state t

-- the cells of a tenant: its name, its state, its words, its changes under way and its quota, the record places of its file
unfoldable pub cells : TenantMetrics → List ℕ
cells t =
    escaped t.figures.name.items ++ codes "</td><td>" ++ state_of t ++ codes "</td><td>" ++ decimal t.figures.words ++ codes "</td><td>"
    ++ decimal t.figures.used ++ codes " of " ++ decimal t.figures.quota ++ codes "</td><td>" ++ decimal t.figures.places

-- the row of a tenant
unfoldable pub row : TenantMetrics → List ℕ
row t = codes "<tr class=\"" ++ state_of t ++ codes "\"><td>" ++ cells t ++ codes "</td></tr>\n"

-- the table of the tenants
unfoldable pub table : List TenantMetrics → List ℕ
table tenants =
    codes "<h2>Tenants</h2>\n<table class=\"tenants\">\n<tr><th>Tenant</th><th>State</th><th>Words</th><th>Changes under way</th><th>Record places</th></tr>\n"
    ++ flat_map row tenants ++ codes "</table>\n"

-- what comes after the tables: how many slots of the pool are free, and where more is
unfoldable pub end : ℕ → List ℕ
end pool_free =
    codes "<p>Free slots of the pool: " ++ decimal pool_free
    ++ codes ".</p>\n</div>\n<p><a href=\"metrics\">Figures for Prometheus</a>, <a href=\"healthz\">health</a></p>\n</body>\n</html>\n"

-- the page
unfoldable pub page : List ℕ → ℕ → Option ℕ → List TenantMetrics → List Limit → List Recent → ℕ → List ℕ
page version seconds lease tenants used recent pool_free =
    front ++ about version seconds ++ lease_line lease ++ summary tenants ++ limits used ++ recents recent ++ table tenants ++ end pool_free
