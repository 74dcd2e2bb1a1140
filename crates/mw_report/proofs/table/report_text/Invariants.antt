-- Loop invariants of `report_text` (src/table.rt).
use Rattle.std.proofs.Common.{◌≡◌, ◌≤◌, ◌*◌, ◌++◌, length, drop, flat_map}
use Rattle.mw_report.specs.Table.{tenant_line}
use Rattle.mw_report.proofs.table.report_text.Given as goal

-- the lines so far and those of the tenants that are left are those of all
abbrev pub invariant-loop-tenant : goal.invariant-loop-tenant
invariant-loop-tenant l = record {
  lines : l.text.items ++ flat_map tenant_line (drop l.tenant-index l.tenants) ≡ flat_map tenant_line l.tenants;
  room : length l.text.items ≤ 36 * l.tenant-index;
}
