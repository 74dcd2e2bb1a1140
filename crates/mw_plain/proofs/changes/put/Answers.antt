-- Goals of `put` (src/changes.rt).
use Rattle.std.proofs.Common.{arith}
use Rattle.std.proofs.lemmas.Grind.{common_steps}
use Rattle.mw_plain.proofs.changes.put.Goals as goal

pub loop-entry-preserved : goal.loop-entry-preserved
loop-entry-preserved c = grind (arith, common_steps)

pub returns : goal.returns
returns c = grind (arith, common_steps)

pub bounds-words-entry : goal.bounds-words-entry
bounds-words-entry c = grind (arith, common_steps)
