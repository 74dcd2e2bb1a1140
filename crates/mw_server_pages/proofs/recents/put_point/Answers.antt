-- Goals of `put_point` (src/recents.rt).
use Rattle.std.proofs.Common.{arith}
use Rattle.std.proofs.lemmas.Grind.{common_steps}
use Rattle.mw_server_pages.specs.Recents.{point}
use Rattle.mw_server_pages.proofs.recents.put_point.Goals as goal

pub returns-clause-point : goal.returns-clause-point
unfolding point
returns-clause-point c = grind (arith, common_steps)
