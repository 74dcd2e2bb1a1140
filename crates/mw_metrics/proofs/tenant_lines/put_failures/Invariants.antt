-- Loop invariants of `put_failures` (src/tenant_lines.rt).
use Rattle.std.proofs.Common.{◌≡◌, ◌+◌, ◌*◌, ◌≤◌, ◌++◌, length, drop, flat_map}
use Rattle.mw_metrics.specs.declared.kinds.TheConstants.{DEVICE_CALLS}
use Rattle.mw_metrics.specs.Figures.{failure_line}
use Rattle.mw_metrics.proofs.tenant_lines.put_failures.Given as goal

-- what is put so far and what is left is all
abbrev pub invariant-loop-call : goal.invariant-loop-call
invariant-loop-call l = record {
  lines : l.text.bytes.items ++ flat_map (failure_line l.tenant) (drop l.call-index DEVICE_CALLS) ≡ l.initial.text.bytes.items ++ flat_map (failure_line l.tenant) DEVICE_CALLS;
  room : length l.text.bytes.items ≤ length l.initial.text.bytes.items + l.call-index * 212;
}
