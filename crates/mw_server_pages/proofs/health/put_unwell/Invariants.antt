-- Loop invariants of `put_unwell` (src/health.rt).
use Rattle.std.proofs.Common.{◌≡◌, ◌+◌, ◌*◌, ◌≤◌, ◌++◌, length, drop, flat_map}
use Rattle.mw_server_pages.specs.Health.{unwell_line}
use Rattle.mw_server_pages.proofs.health.put_unwell.Given as goal

-- what is put so far and what is left is all
abbrev pub invariant-loop-tenant : goal.invariant-loop-tenant
invariant-loop-tenant l = record {
  lines : l.text.items ++ flat_map unwell_line (drop l.tenant-index l.tenants) ≡ l.initial.text.items ++ flat_map unwell_line l.tenants;
  room : length l.text.items ≤ length l.initial.text.items + l.tenant-index * 26;
}
