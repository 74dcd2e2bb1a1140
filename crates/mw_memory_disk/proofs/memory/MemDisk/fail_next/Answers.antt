-- Goals of `MemDisk::fail_next` (src/memory.rt).
use Rattle.std.proofs.Common.{arith}
use Rattle.std.proofs.lemmas.Grind.{common_steps}
use Rattle.mw_memory_disk.proofs.memory.MemDisk.fail_next.Goals as goal

pub returns-in_ok-push-clause-plan : goal.returns-in_ok-push-clause-plan
returns-in_ok-push-clause-plan c = grind (arith, common_steps)
