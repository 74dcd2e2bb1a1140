-- Loop invariants of `put_requests` (src/tenant_lines.rt).
use Rattle.std.proofs.Common.{◌≡◌, ◌+◌, ◌*◌, ◌≤◌, ◌++◌, length, drop, flat_map}
use Rattle.mw_metrics.specs.declared.kinds.TheConstants.{REQUEST_KINDS}
use Rattle.mw_metrics.specs.Figures.{kind_lines}
use Rattle.mw_metrics.proofs.tenant_lines.put_requests.Given as goal

-- what is put so far and what is left is all
abbrev pub invariant-loop-kind : goal.invariant-loop-kind
invariant-loop-kind l = record {
  lines : l.text.bytes.items ++ flat_map (kind_lines l.tenant) (drop l.kind-index REQUEST_KINDS) ≡ l.initial.text.bytes.items ++ flat_map (kind_lines l.tenant) REQUEST_KINDS;
  room : length l.text.bytes.items ≤ length l.initial.text.bytes.items + l.kind-index * 1484;
}
