-- Goals of `old_line` (src/olds.rt).
use Rattle.std.proofs.Common.{arith}
use Rattle.std.proofs.lemmas.Grind.{common_steps}
use Rattle.mw_schedule.proofs.olds.old_line.Goals as goal

pub returns-clause-there : goal.returns-clause-there
returns-clause-there c = grind (arith, common_steps)

pub returns-in_err-change-clause-old : goal.returns-in_err-change-clause-old
returns-in_err-change-clause-old c = grind (arith, common_steps)
