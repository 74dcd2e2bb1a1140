-- Loop invariants of `put_gauges` (src/tenant_lines.rt).
use Rattle.std.proofs.Common.{◌≡◌, ◌+◌, ◌*◌, ◌≤◌, ◌++◌, length, drop, flat_map}
use Rattle.mw_metrics.specs.declared.families.TheConstants.{TENANT_GAUGES}
use Rattle.mw_metrics.specs.Figures.{gauge_family}
use Rattle.mw_metrics.proofs.tenant_lines.put_gauges.Given as goal

-- what is put so far and what is left is all
abbrev pub invariant-loop-gauge : goal.invariant-loop-gauge
invariant-loop-gauge l = record {
  lines : l.text.bytes.items ++ flat_map (gauge_family l.tenants) (drop l.gauge-index TENANT_GAUGES) ≡ l.initial.text.bytes.items ++ flat_map (gauge_family l.tenants) TENANT_GAUGES;
  room : length l.text.bytes.items ≤ length l.initial.text.bytes.items + l.gauge-index * 3620;
}
