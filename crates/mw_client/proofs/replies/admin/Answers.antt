-- Goals of `admin` (src/replies.rt).
use Rattle.std.proofs.Common.{arith}
use Rattle.std.proofs.lemmas.Grind.{common_steps}
use Rattle.mw_client.proofs.replies.admin.Goals as goal

pub returns-in-ADMIN : goal.returns-in-ADMIN
returns-in-ADMIN c = grind (arith, common_steps)
