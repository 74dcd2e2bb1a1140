-- Goals of `next_in` (src/spans.rt).
use Rattle.std.proofs.Common.{arith}
use Rattle.std.proofs.lemmas.Grind.{common_steps}
use Rattle.mw_memory_disk.proofs.spans.next_in.Goals as goal

pub returns : goal.returns
returns c = grind (arith, common_steps)

pub loop-span-preserved : goal.loop-span-preserved
loop-span-preserved c = grind (arith, common_steps)
