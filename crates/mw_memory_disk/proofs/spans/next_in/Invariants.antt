-- Loop invariants of `next_in` (src/spans.rt).
use Rattle.std.proofs.Common.{take}
use Rattle.mw_memory_disk.specs.Crash.{IsNext}
use Rattle.mw_memory_disk.proofs.spans.next_in.Given as goal

abbrev pub invariant-loop-span : goal.invariant-loop-span
invariant-loop-span l = IsNext (take l.span-index l.spans) l.from l.next
