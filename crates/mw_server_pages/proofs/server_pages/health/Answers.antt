-- Goals of `health` (src/server_pages.rt).
use Rattle.std.proofs.Common.{arith}
use Rattle.std.proofs.lemmas.Grind.{common_steps}
use Rattle.mw_server_pages.proofs.server_pages.health.Goals as goal

pub health_of-requires : goal.health_of-requires
health_of-requires c = grind (arith, common_steps)
