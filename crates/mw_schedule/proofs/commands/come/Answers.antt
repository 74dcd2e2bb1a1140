-- Goals of `come` (src/commands.rt).
use Rattle.std.proofs.Common.{arith}
use Rattle.std.proofs.lemmas.Grind.{common_steps}
use Rattle.mw_schedule.proofs.commands.come.Goals as goal

pub returns-in-Ok-Job : goal.returns-in-Ok-Job
returns-in-Ok-Job c = grind (arith, common_steps)
