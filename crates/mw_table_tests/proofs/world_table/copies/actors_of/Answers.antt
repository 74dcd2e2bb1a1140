-- Goals of `actors_of` (src/world_table/copies.rt).
use Rattle.std.proofs.Common.{arith}
use Rattle.std.proofs.lemmas.Grind.{common_steps}
use Rattle.mw_table_tests.proofs.world_table.copies.actors_of.Goals as goal

-- one more worker's request is copied
pub loop-worker_state-preserved : goal.loop-worker_state-preserved
loop-worker_state-preserved c = grind (arith, common_steps)

-- all workers' requests are copied
pub returns : goal.returns
returns c = grind (arith, common_steps)
