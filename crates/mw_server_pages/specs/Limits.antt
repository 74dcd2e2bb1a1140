-- Defines what the status page has of limits: how much of each was used of late, and which are near.
-- Used by: limits.rt. A change here changes what the browser shows.
use Rattle.std.specs.Prelude.{ℕ, ◌++◌, Bool, true, false, not, List, flat_map, codes, decimal, if◌then◌else◌}
use Rattle.std.specs.List.{list_all}
use Rattle.mw_server_pages.specs.declared.limits.LimitKind.{LimitKind}
use Rattle.mw_server_pages.specs.declared.limits.LimitKind.TheVariants.{Quota, Places, Workers, Sessions}
use Rattle.mw_server_pages.specs.declared.limits.Limit.{Limit}
use Rattle.mw_server_pages.specs.Escapes.{escaped}

-- what is limited; the tenant comes after it, if it is one's
abbrev pub kind : LimitKind → List ℕ
kind Quota = codes "quota of "
kind Places = codes "record places of "
kind Workers = codes "workers for changes"
kind Sessions = codes "sessions"

-- what raises it
abbrev pub remedy : LimitKind → List ℕ
remedy Quota = codes "its number in the tenants file"
remedy Places = codes "a larger file, by mwinit --from"
remedy Workers = codes "--workers"
remedy Sessions = codes "--clients, or end some by --idle"

-- whether it is near, as a word
abbrev pub nearness : Bool → List ℕ
nearness true = codes "near"
nearness false = codes "far"

-- how much was used of a limit, how much there is, and both as a bar
unfoldable pub used : Limit → List ℕ
used l =
    codes "</td><td>" ++ decimal l.used ++ codes " of " ++ decimal l.most ++ codes "</td><td><meter max=\"" ++ decimal l.most ++ codes "\" value=\"" ++ decimal l.used
    ++ codes "\"></meter></td><td>"

-- the row of a limit
unfoldable pub limit : Limit → List ℕ
limit l =
    codes "<tr class=\"" ++ nearness l.near ++ codes "\"><td>" ++ kind l.kind ++ escaped l.tenant.items ++ used l ++ remedy l.kind
    ++ codes "</td></tr>\n"

-- a limit is not near
abbrev pub is_far : Limit → Bool
is_far l = not l.near

-- whether one is near
abbrev pub verdict : List Limit → List ℕ
verdict all = if list_all is_far all then codes "<p>No limit is near.</p>\n" else codes "<p class=\"near\">A limit is near.</p>\n"

-- what comes before the rows. In between is room for what the script knows of the last minute.
unfoldable pub heading : List ℕ
heading =
    codes "</div>\n<div id=\"minute\"></div>\n<div id=\"rest\">\n<h2>Limits, and the most that was used in the last quarter of an hour</h2>\n<table class=\"limits\">\n<tr><th>Limit</th><th>Used</th><th></th><th>What raises it</th></tr>\n"

-- the limits
unfoldable pub limits : List Limit → List ℕ
limits all = verdict all ++ heading ++ flat_map limit all ++ codes "</table>\n"
