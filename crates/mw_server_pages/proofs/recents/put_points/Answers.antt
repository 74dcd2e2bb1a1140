-- Goals of `put_points` (src/recents.rt).
use Rattle.std.proofs.Common.{arith}
use Rattle.std.proofs.lemmas.Grind.{common_steps}
use Rattle.mw_server_pages.proofs.recents.put_points.Goals as goal

pub returns-clause-points : goal.returns-clause-points
returns-clause-points c = grind (arith, common_steps)

pub loop-point-preserved : goal.loop-point-preserved
loop-point-preserved c = grind (arith, common_steps)
