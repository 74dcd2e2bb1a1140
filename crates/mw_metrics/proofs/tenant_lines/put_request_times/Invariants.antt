-- Loop invariants of `put_request_times` (src/tenant_lines.rt).
use Rattle.std.proofs.Common.{◌≡◌, ◌+◌, ◌*◌, ◌≤◌, ◌++◌, length, drop, flat_map}
use Rattle.mw_metrics.specs.declared.kinds.TheConstants.{REQUEST_KINDS}
use Rattle.mw_metrics.specs.Figures.{request_time}
use Rattle.mw_metrics.proofs.tenant_lines.put_request_times.Given as goal

-- what is put so far and what is left is all
abbrev pub invariant-loop-kind : goal.invariant-loop-kind
invariant-loop-kind l = record {
  lines : l.text.bytes.items ++ flat_map (request_time l.tenant) (drop l.kind-index REQUEST_KINDS) ≡ l.initial.text.bytes.items ++ flat_map (request_time l.tenant) REQUEST_KINDS;
  room : length l.text.bytes.items ≤ length l.initial.text.bytes.items + l.kind-index * 3180;
}
