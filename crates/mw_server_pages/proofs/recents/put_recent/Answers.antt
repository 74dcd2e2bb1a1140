-- Goals of `put_recent` (src/recents.rt).
use Rattle.std.proofs.Common.{arith}
use Rattle.std.proofs.lemmas.Grind.{common_steps}
use Rattle.mw_server_pages.specs.Recents.{recent}
use Rattle.mw_server_pages.proofs.recents.put_recent.Goals as goal

pub returns-clause-row : goal.returns-clause-row
unfolding recent
returns-clause-row c = grind (arith, common_steps)
