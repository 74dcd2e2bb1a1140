-- Loop invariants of `put_closed` (src/server_lines.rt).
use Rattle.std.proofs.Common.{◌≡◌, ◌+◌, ◌*◌, ◌≤◌, ◌++◌, length, drop, flat_map}
use Rattle.mw_metrics.specs.declared.kinds.TheConstants.{CLOSE_REASONS}
use Rattle.mw_metrics.specs.Figures.{closed_line}
use Rattle.mw_metrics.proofs.server_lines.put_closed.Given as goal

-- the lines so far and those that are left are all
abbrev pub invariant-loop-reason : goal.invariant-loop-reason
invariant-loop-reason l = record {
  lines : l.text.bytes.items ++ flat_map (closed_line l.closed) (drop l.reason-index CLOSE_REASONS) ≡ l.initial.text.bytes.items ++ flat_map (closed_line l.closed) CLOSE_REASONS;
  room : length l.text.bytes.items ≤ length l.initial.text.bytes.items + l.reason-index * 212;
}
