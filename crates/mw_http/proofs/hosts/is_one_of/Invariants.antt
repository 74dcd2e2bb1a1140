-- Loop invariants of `is_one_of` (src/hosts.rt).
use Rattle.std.proofs.Common.{◌≡◌, map, drop}
use Rattle.std.specs.Prelude.{string_bytes}
use Rattle.mw_http.specs.Hosts.{is_one_of}
use Rattle.mw_http.proofs.hosts.is_one_of.Given as goal

-- none of the names so far is it
abbrev pub invariant-loop-own : goal.invariant-loop-own
invariant-loop-own l = is_one_of (map string_bytes (drop l.own-index l.names)) l.name ≡ is_one_of (map string_bytes l.names) l.name
