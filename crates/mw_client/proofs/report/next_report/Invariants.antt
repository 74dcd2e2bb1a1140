-- The loop invariant of `next_report` (src/report.rt), which reads a report line by line.
use Rattle.std.specs.Prelude.{All}
use Rattle.std.specs.Io.KnownBytes.{Consumes}
use Rattle.mw_report.specs.Table.{IsWithinLimits}
use Rattle.mw_client.proofs.report.next_report.Given as goal

-- the text so far was read, and the tenants keep the limits
abbrev pub invariant-loop : goal.invariant-loop
invariant-loop g l = record {
  read : Consumes (g.R.Read.remaining l.initial.reader) (g.R.Read.remaining l.reader) l.text.items;
  limits : All IsWithinLimits l.tenants.items;
}
