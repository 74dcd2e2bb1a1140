-- Loop invariants of `next_line` (src/conversation.rt).
use Rattle.std.proofs.Common.{◌≤◌, length}
use Rattle.std.specs.Io.KnownBytes.{Consumes}
use Rattle.mw_client.proofs.conversation.next_line.Given as goal

-- the line so far was read, a byte in each turn
abbrev pub invariant-loop : goal.invariant-loop
invariant-loop g l = record {
  read : Consumes (g.R.Read.remaining l.initial.reader) (g.R.Read.remaining l.reader) l.line.items;
  room : length l.line.items ≤ l.counter;
}
