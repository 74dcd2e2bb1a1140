-- Goals of `Client::begin` (src/client.rt).
use Rattle.std.proofs.Common.{arith}
use Rattle.std.proofs.lemmas.Grind.{common_steps}
use Rattle.mw_client.proofs.client.Client.begin.Goals as goal

pub returns-in-Some-Ok-clause-bound : goal.returns-in-Some-Ok-clause-bound
returns-in-Some-Ok-clause-bound c = grind (arith, common_steps)
