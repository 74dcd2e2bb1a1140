-- Goals of `Client::change` (src/client.rt).
use Rattle.std.proofs.Common.{arith}
use Rattle.std.proofs.lemmas.Grind.{common_steps}
use Rattle.mw_client.proofs.client.Client.change.Goals as goal

pub returns-clause-answered : goal.returns-clause-answered
returns-clause-answered c = grind (arith, common_steps)
