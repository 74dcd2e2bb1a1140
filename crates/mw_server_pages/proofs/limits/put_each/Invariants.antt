-- Loop invariants of `put_each` (src/limits.rt).
use Rattle.std.proofs.Common.{◌≡◌, ◌+◌, ◌*◌, ◌≤◌, ◌++◌, length, drop, flat_map}
use Rattle.mw_server_pages.specs.Limits.{limit}
use Rattle.mw_server_pages.proofs.limits.put_each.Given as goal

-- what is put so far and what is left is all
abbrev pub invariant-loop-limit : goal.invariant-loop-limit
invariant-loop-limit l = record {
  limits : l.text.bytes.items ++ flat_map limit (drop l.limit-index l.limits) ≡ l.initial.text.bytes.items ++ flat_map limit l.limits;
  room : length l.text.bytes.items ≤ length l.initial.text.bytes.items + l.limit-index * 330;
}
