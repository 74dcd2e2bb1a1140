-- Loop invariants of `put_spaces` (src/table.rt).
use Rattle.std.proofs.Common.{◌≡◌, ◌+◌, ◌++◌, length}
use Rattle.mw_report.specs.Table.{spaces}
use Rattle.mw_report.proofs.table.put_spaces.Given as goal

-- so many spaces come after what was there
abbrev pub invariant-loop : goal.invariant-loop
invariant-loop l = record {
  put : l.text.items ≡ l.initial.text.items ++ spaces l.counter;
  len : length l.text.items ≡ length l.initial.text.items + l.counter;
}
