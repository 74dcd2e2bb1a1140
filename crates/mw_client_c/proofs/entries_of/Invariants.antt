-- Loop invariants of `entries_of` (src/lib.rt).
use Rattle.std.proofs.Common.{◌≡◌, map, take}
use Rattle.mw_client_c.specs.Crossing as spec
use Rattle.mw_client_c.proofs.entries_of.Given as goal

-- the entries so far
abbrev pub invariant-loop-i : goal.invariant-loop-i
invariant-loop-i l = l.entries.items ≡ map spec.entry_of (take l.i l.given)
