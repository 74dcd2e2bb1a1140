-- Goals of `status` (src/server_pages.rt).
use Rattle.std.proofs.Common.{arith}
use Rattle.std.proofs.lemmas.Grind.{common_steps}
use Rattle.mw_server_pages.proofs.server_pages.status.Goals as goal

pub status_page-text-requires-clause-few : goal.status_page-text-requires-clause-few
status_page-text-requires-clause-few c = grind (arith, common_steps)
