-- Loop invariants of `address_len` (src/hosts.rt).
use Rattle.std.proofs.Common.{◌≡◌, ◌+◌, drop}
use Rattle.std.specs.List.{prefix_len}
use Rattle.mw_http.specs.Hosts.{is_address_byte}
use Rattle.mw_http.proofs.hosts.address_len.Given as goal

-- the bytes so far are of the address
abbrev pub invariant-loop-at : goal.invariant-loop-at
invariant-loop-at l = l.at + prefix_len is_address_byte (drop l.at l.rest) ≡ prefix_len is_address_byte l.rest
