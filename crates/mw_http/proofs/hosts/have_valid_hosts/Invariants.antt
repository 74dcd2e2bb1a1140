-- Loop invariants of `have_valid_hosts` (src/hosts.rt).
use Rattle.std.proofs.Common.{◌≡◌, map, drop}
use Rattle.std.specs.List.{list_all}
use Rattle.httparse.specs.Spans.{header_bytes}
use Rattle.mw_http.specs.Hosts.{is_valid_field}
use Rattle.mw_http.proofs.hosts.have_valid_hosts.Given as goal

-- the fields so far are valid
abbrev pub invariant-loop-field : goal.invariant-loop-field
invariant-loop-field l = list_all is_valid_field (map (header_bytes l.head) (drop l.field-index l.fields)) ≡ list_all is_valid_field (map (header_bytes l.head) l.fields)
