-- Goals of `put_state` (src/recents.rt).
use Rattle.std.proofs.Common.{arith}
use Rattle.std.proofs.lemmas.Grind.{common_steps}
use Rattle.mw_server_pages.specs.Recents.{down_for}
use Rattle.mw_server_pages.proofs.recents.put_state.Goals as goal

pub returns-in-Some-clause-state : goal.returns-in-Some-clause-state
unfolding down_for
returns-in-Some-clause-state c = grind (arith, common_steps)
