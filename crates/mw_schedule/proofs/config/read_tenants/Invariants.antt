-- Loop invariants of `read_tenants` (src/config.rt).
use Rattle.std.proofs.Common.{◌≡◌, ◌+◌, ◌≤◌, length}
use Rattle.std.specs.Prelude.{sum_by}
use Rattle.mw_schedule.specs.Playable.{AreTenants}
use Rattle.mw_schedule.proofs.config.read_tenants.Given as goal

-- the tenants so far are within their limits, and `free` is what their quotas leave of the pool
abbrev pub invariant-loop : goal.invariant-loop
invariant-loop l = record {
  within : AreTenants l.pool l.tenants.items;
  free : sum_by (λ tenant. tenant.quota) l.tenants.items + l.free ≡ l.pool;
  count : length l.tenants.items ≤ l.counter;
}
