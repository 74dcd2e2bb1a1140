-- Loop invariants of `tear` (src/spans.rt).
use Rattle.std.proofs.Common.{◌≡◌}
use Rattle.mw_memory_disk.specs.Crash.{Tears, count_within}
use Rattle.mw_memory_disk.proofs.spans.tear.Given as goal

abbrev pub invariant-loop-byte : goal.invariant-loop-byte
invariant-loop-byte l = record {
  torn : Tears l.spans l.torn l.byte-index l.initial.bytes.items l.bytes.items;
  count : count_within l.spans l.from ≡ l.byte-index;
}
