-- Goals of `read_config` (src/config.rt).
use Rattle.std.proofs.Common.{arith}
use Rattle.std.proofs.lemmas.Grind.{common_steps}
use Rattle.mw_schedule.proofs.config.read_config.Goals as goal

pub returns-clause-config : goal.returns-clause-config
returns-clause-config c = grind (arith, common_steps)
