-- Defines what a request's target asks for.
-- Used by: targets.rt, exchanges.rt, pages.rt, mw_server_pages. A change here changes what clients may ask for, and docs/OPERATING with it.
use Rattle.std.specs.Prelude.{ℕ, ◌+◌, ◌-◌, ◌==◌, Bool, not, ◌&&◌, ◌||◌, List, length, take, drop, nat_eq, nat_le, nat_lt, slice_range, Option, None, Some, is_some, codes, bytes_eq, if◌then◌else◌}
use Rattle.std.specs.List.{prefix_len, starts_with, ends_with}
use Rattle.std.specs.Option.{option_and_then, option_map}
use Rattle.http1.specs.Text.{eq_ignore_case}
use Rattle.mw_words.specs.Name.{is_name}
use Rattle.mw_http.specs.declared.targets.Route.{Route}
use Rattle.mw_http.specs.declared.targets.Route.TheVariants.{Page, Metrics, Health, File, Words, Style, Script}

-- what a client may ask for; a file and words are those of the tenant with this name
pub data Place : Type 0 where
  page metrics health style script : Place
  file words : (tenant : List ℕ) → Place

-- what a route asks for
abbrev pub place_of : Route → Place
place_of Page = page
place_of Metrics = metrics
place_of Health = health
place_of Style = style
place_of Script = script
place_of (File tenant) = file tenant.items
place_of (Words tenant) = words tenant.items

-- the name of a tenant in a path, between /tenants/ and its last bytes, so many
abbrev pub name_in : List ℕ → ℕ → Option (List ℕ)
name_in path last =
    let name = slice_range path 9 (length path - last) in
    if nat_le (9 + last) (length path) && starts_with nat_eq path (codes "/tenants/") && is_name name then Some name else None

-- the path of a tenant's file or words: /tenants/, the name and /file or /words
abbrev pub tenant_at : List ℕ → Option Place
tenant_at path =
    if ends_with nat_eq path (codes "/words") then option_map words (name_in path 6)
    else if ends_with nat_eq path (codes "/file") then option_map file (name_in path 5)
    else None

-- what is at a path, if anything is; an empty path is that of the page
abbrev pub place_of_path : List ℕ → Option Place
place_of_path path =
    if (length path == 0) || bytes_eq path (codes "/") then Some page
    else if bytes_eq path (codes "/metrics") then Some metrics
    else if bytes_eq path (codes "/healthz") then Some health
    else if bytes_eq path (codes "/status.css") then Some style
    else if bytes_eq path (codes "/status.js") then Some script
    else tenant_at path

-- how much of a target comes before its query, which begins with a question mark
abbrev pub path_len : List ℕ → ℕ
path_len target = prefix_len (λ byte. not (byte == 63)) target

-- a target without its query
unfoldable pub before_query : List ℕ → List ℕ
before_query target = take (path_len target) target

-- how long an authority, a host and maybe a port, is: up to the path, the query or the end
abbrev pub authority_len : List ℕ → ℕ
authority_len rest = prefix_len (λ byte. not (byte == 47) && not (byte == 63)) rest

-- the target begins with http://, in any case
abbrev pub has_scheme : List ℕ → Bool
has_scheme target = nat_le 7 (length target) && eq_ignore_case (take 7 target) (codes "http://")

-- The path of a target: of one that is a path, or of an absolute address of http (RFC 9112, sections 3.2.1 and 3.2.2). An
-- address must have an authority.
unfoldable pub path_of : List ℕ → Option (List ℕ)
path_of target =
    if starts_with nat_eq target (codes "/") then Some (before_query target)
    else if has_scheme target && nat_lt 0 (authority_len (drop 7 target))
    then Some (before_query (drop (authority_len (drop 7 target)) (drop 7 target)))
    else None

-- the target is a path or an address of http
abbrev pub is_target : List ℕ → Bool
is_target target = is_some (path_of target)

-- what is at a target, if anything is
unfoldable pub place_at : List ℕ → Option Place
place_at target = option_and_then place_of_path (path_of target)
