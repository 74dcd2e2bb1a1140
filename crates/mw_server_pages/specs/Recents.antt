-- Defines what the status page has of the time before: a row with three curves in SVG for each tenant.
-- Used by: recents.rt. A change here changes what the browser shows.
use Rattle.std.specs.Prelude.{ℕ, ◌++◌, List, flat_map, codes, decimal, Option, None, Some}
use Rattle.mw_server_pages.specs.declared.recents.Curve.{Curve}
use Rattle.mw_server_pages.specs.declared.recents.Point.{Point}
use Rattle.mw_server_pages.specs.declared.recents.Recent.{Recent}
use Rattle.mw_server_pages.specs.Escapes.{escaped}
use Rattle.mw_server_pages.specs.Spans.{span}

-- a point of a curve
unfoldable pub point : Point → List ℕ
point p = decimal p.right ++ codes "," ++ decimal p.down ++ codes " "

-- A cell: a figure, the highest that it was, and its curve: from a quarter of an hour ago to now, and from 0 to the highest figure.
unfoldable pub cell : Curve → List ℕ
cell c =
    codes "<td>" ++ decimal c.last ++ codes " (most " ++ decimal c.most ++ codes ") <svg viewBox=\"0 0 180 30\" aria-hidden=\"true\"><path d=\"M0 0V30H180\"/><polyline points=\"" ++ flat_map point c.points.items
    ++ codes "\"/></svg></td>"

-- down for so many seconds
unfoldable pub down_for : ℕ → List ℕ
down_for seconds = codes "down for " ++ span seconds

-- whether it is up, or for how long it is down
abbrev pub state : Option ℕ → List ℕ
state None = codes "up"
state (Some seconds) = down_for seconds

-- the name of a tenant, and whether it is up
unfoldable pub named : Recent → List ℕ
named r = codes "<tr><td>" ++ escaped r.name.items ++ codes "</td><td>" ++ state r.down ++ codes "</td>"

-- the row of a tenant
unfoldable pub recent : Recent → List ℕ
recent r = named r ++ cell r.changes ++ cell r.change ++ cell r.sync ++ codes "</tr>\n"

-- the table of the time before
unfoldable pub recents : List Recent → List ℕ
recents all =
    codes "<h2>The last quarter of an hour</h2>\n<p>Each curve goes from 15 minutes ago to now, and from 0 to its most.</p>\n<table class=\"recent\">\n<tr><th>Tenant</th><th>State</th><th>Changes a second</th><th>A change, in &micro;s</th><th>A sync, in &micro;s</th></tr>\n"
    ++ flat_map recent all ++ codes "</table>\n"
