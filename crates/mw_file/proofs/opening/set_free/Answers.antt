-- Goals of `set_free` (src/opening.rt).
use Rattle.std.proofs.Common.{arith}
use Rattle.std.proofs.lemmas.Grind.{common_steps}
use Rattle.mw_file.proofs.opening.set_free.Goals as goal

pub returns : goal.returns
returns c = grind (arith, common_steps)

pub loop-state-preserved : goal.loop-state-preserved
loop-state-preserved c = grind (arith, common_steps)
