-- Loop invariants of `name_len` (src/hosts.rt).
use Rattle.std.proofs.Common.{◌≡◌, ◌+◌, drop}
use Rattle.std.specs.List.{prefix_len}
use Rattle.mw_http.specs.Hosts.{is_name_byte}
use Rattle.mw_http.proofs.hosts.name_len.Given as goal

-- the bytes so far are of the name
abbrev pub invariant-loop-at : goal.invariant-loop-at
invariant-loop-at l = l.at + prefix_len is_name_byte (drop l.at l.value) ≡ prefix_len is_name_byte l.value
