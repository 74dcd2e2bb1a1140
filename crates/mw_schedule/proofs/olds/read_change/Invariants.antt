-- Loop invariants of `read_change` (src/olds.rt).
use Rattle.std.proofs.Common.{◌≤◌, length}
use Rattle.mw_schedule.proofs.olds.read_change.Given as goal

-- there is at most one entry for each pair that was read
abbrev pub invariant-loop : goal.invariant-loop
invariant-loop l = length l.change.items ≤ l.counter
