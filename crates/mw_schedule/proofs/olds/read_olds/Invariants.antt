-- Loop invariants of `read_olds` (src/olds.rt).
use Rattle.std.proofs.Common.{◌≡◌, length}
use Rattle.mw_schedule.specs.Playable.{AreTenants}
use Rattle.mw_schedule.proofs.olds.read_olds.Given as goal

-- the tenants are within their limits, and as many as there were
abbrev pub invariant-loop : goal.invariant-loop
invariant-loop l = record {
  within : AreTenants l.pool l.tenants.items;
  count : length l.tenants.items ≡ length l.fn.new.items;
}
