-- Goals of `quota_sum` (src/tenants.rt).
use Rattle.std.proofs.Common.{arith}
use Rattle.std.proofs.lemmas.Grind.{common_steps}
use Rattle.mw_config.proofs.tenants.quota_sum.Goals as goal

pub returns : goal.returns
returns c = grind (arith, common_steps)
