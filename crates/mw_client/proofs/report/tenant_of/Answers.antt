-- Goals of `tenant_of` (src/report.rt).
use Rattle.std.proofs.Common.{arith}
use Rattle.std.proofs.lemmas.Grind.{common_steps}
use Rattle.mw_client.proofs.report.tenant_of.Goals as goal

pub returns : goal.returns
returns c = grind (arith, common_steps)
