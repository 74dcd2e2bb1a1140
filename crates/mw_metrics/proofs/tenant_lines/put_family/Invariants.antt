-- Loop invariants of `put_family` (src/tenant_lines.rt).
use Rattle.std.proofs.Common.{◌≡◌, ◌+◌, ◌*◌, ◌≤◌, ◌++◌, length, drop, flat_map}
use Rattle.mw_metrics.specs.TenantLines.{lines_of, most_of}
use Rattle.mw_metrics.proofs.tenant_lines.put_family.Given as goal

-- what is put so far and what is left is all
abbrev pub invariant-loop-tenant : goal.invariant-loop-tenant
invariant-loop-tenant l = record {
  lines : l.text.bytes.items ++ flat_map (lines_of l.family) (drop l.tenant-index l.tenants) ≡ l.initial.text.bytes.items ++ flat_map (lines_of l.family) l.tenants;
  room : length l.text.bytes.items ≤ length l.initial.text.bytes.items + l.tenant-index * most_of l.family;
}
