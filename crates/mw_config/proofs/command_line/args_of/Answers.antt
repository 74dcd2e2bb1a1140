-- Goals of `args_of` (src/command_line.rt).
use Rattle.std.proofs.Common.{arith}
use Rattle.std.proofs.lemmas.Grind.{common_steps}
use Rattle.mw_config.proofs.command_line.args_of.Goals as goal

pub returns-clause-asked : goal.returns-clause-asked
returns-clause-asked c = grind (arith, common_steps)

pub returns-clause-permitted : goal.returns-clause-permitted
returns-clause-permitted c = grind (arith, common_steps)
