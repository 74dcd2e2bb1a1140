-- Goals of `note` (src/client.rt).
use Rattle.std.proofs.Common.{arith}
use Rattle.std.proofs.lemmas.Grind.{common_steps}
use Rattle.mw_client.proofs.client.note.Goals as goal

pub returns : goal.returns
returns c = grind (arith, common_steps)
