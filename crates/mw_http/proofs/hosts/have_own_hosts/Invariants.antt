-- Loop invariants of `have_own_hosts` (src/hosts.rt).
use Rattle.std.proofs.Common.{◌≡◌, map, drop}
use Rattle.std.specs.List.{list_all}
use Rattle.std.specs.Prelude.{string_bytes}
use Rattle.httparse.specs.Spans.{header_bytes}
use Rattle.mw_http.specs.Hosts.{is_own_field}
use Rattle.mw_http.proofs.hosts.have_own_hosts.Given as goal

-- the fields so far have own hosts
abbrev pub invariant-loop-field : goal.invariant-loop-field
invariant-loop-field l = list_all (is_own_field (map string_bytes l.names)) (map (header_bytes l.head) (drop l.field-index l.fields))
    ≡ list_all (is_own_field (map string_bytes l.names)) (map (header_bytes l.head) l.fields)
