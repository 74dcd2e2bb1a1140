-- Goals of `rises` (src/jobs.rt).
use Rattle.std.proofs.Common.{arith}
use Rattle.std.proofs.lemmas.Grind.{common_steps}
use Rattle.mw_words.proofs.jobs.rises.Goals as goal

pub loop-entry-preserved : goal.loop-entry-preserved
loop-entry-preserved c = grind (arith, common_steps)

pub returns-then-from-lowest : goal.returns-then-from-lowest
returns-then-from-lowest c = grind (arith, common_steps)

pub returns : goal.returns
returns c = grind (arith, common_steps)
