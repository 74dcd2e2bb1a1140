-- Loop invariants of `put_rows` (src/recents.rt).
use Rattle.std.proofs.Common.{◌≡◌, ◌+◌, ◌*◌, ◌≤◌, ◌++◌, length, drop, flat_map}
use Rattle.mw_server_pages.specs.Recents.{recent}
use Rattle.mw_server_pages.proofs.recents.put_rows.Given as goal

-- what is put so far and what is left is all
abbrev pub invariant-loop-recent : goal.invariant-loop-recent
invariant-loop-recent l = record {
  rows : l.text.bytes.items ++ flat_map recent (drop l.recent-index l.recents) ≡ l.initial.text.bytes.items ++ flat_map recent l.recents;
  room : length l.text.bytes.items ≤ length l.initial.text.bytes.items + l.recent-index * 2450;
}
