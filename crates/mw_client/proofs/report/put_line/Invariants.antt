-- Loop invariants of `put_line` (src/report.rt).
use Rattle.std.specs.Prelude.{◌≤◌, length, true}
use Rattle.mw_client.specs.Exchanges.{GoesOn}
use Rattle.mw_client.proofs.report.put_line.Given as goal

-- what was appended to the text so far was read
abbrev pub invariant-loop : goal.invariant-loop
invariant-loop g l = record {
  read : GoesOn true (g.R.Read.remaining l.initial.reader) (g.R.Read.remaining l.reader) l.initial.text.items l.text.items;
  longer : length l.initial.text.items ≤ length l.text.items;
}
