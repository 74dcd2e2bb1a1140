-- Loop invariants of `put_points` (src/recents.rt).
use Rattle.std.proofs.Common.{◌≡◌, ◌+◌, ◌*◌, ◌≤◌, ◌++◌, length, drop, flat_map}
use Rattle.mw_server_pages.specs.Recents.{point}
use Rattle.mw_server_pages.proofs.recents.put_points.Given as goal

-- what is put so far and what is left is all
abbrev pub invariant-loop-point : goal.invariant-loop-point
invariant-loop-point l = record {
  points : l.text.bytes.items ++ flat_map point (drop l.point-index l.points) ≡ l.initial.text.bytes.items ++ flat_map point l.points;
  room : length l.text.bytes.items ≤ length l.initial.text.bytes.items + l.point-index * 8;
}
