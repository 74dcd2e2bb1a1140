-- Loop invariants of `put_kind` (src/tenant_lines.rt).
use Rattle.std.proofs.Common.{◌≡◌, ◌+◌, ◌*◌, ◌≤◌, ◌++◌, length, drop, flat_map}
use Rattle.mw_metrics.specs.declared.kinds.TheConstants.{REPLY_KINDS}
use Rattle.mw_metrics.specs.Figures.{reply_line}
use Rattle.mw_metrics.proofs.tenant_lines.put_kind.Given as goal

-- what is put so far and what is left is all
abbrev pub invariant-loop-reply : goal.invariant-loop-reply
invariant-loop-reply l = record {
  lines : l.text.bytes.items ++ flat_map (reply_line l.tenant l.kind) (drop l.reply-index REPLY_KINDS) ≡ l.initial.text.bytes.items ++ flat_map (reply_line l.tenant l.kind) REPLY_KINDS;
  room : length l.text.bytes.items ≤ length l.initial.text.bytes.items + l.reply-index * 212;
}
