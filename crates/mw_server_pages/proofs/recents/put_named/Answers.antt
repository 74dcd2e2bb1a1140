-- Goals of `put_named` (src/recents.rt).
use Rattle.std.proofs.Common.{arith}
use Rattle.std.proofs.lemmas.Grind.{common_steps}
use Rattle.mw_server_pages.specs.Recents.{named}
use Rattle.mw_server_pages.proofs.recents.put_named.Goals as goal

pub returns-clause-named : goal.returns-clause-named
unfolding named
returns-clause-named c = grind (arith, common_steps)
