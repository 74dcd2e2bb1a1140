-- Goals of `are_far` (src/limits.rt).
use Rattle.std.proofs.Common.{arith}
use Rattle.std.proofs.lemmas.Grind.{common_steps}
use Rattle.mw_server_pages.proofs.limits.are_far.Goals as goal

pub loop-limit-preserved : goal.loop-limit-preserved
loop-limit-preserved c = grind (arith, common_steps)

pub returns : goal.returns
returns c = grind (arith, common_steps)

pub returns-then-limit : goal.returns-then-limit
returns-then-limit c = grind (arith, common_steps)
