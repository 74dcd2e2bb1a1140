-- Goals of `fits` (src/changes.rt).
use Rattle.std.proofs.Common.{arith}
use Rattle.std.proofs.lemmas.Grind.{common_steps}
use Rattle.mw_plain.proofs.changes.fits.Goals as goal

pub returns-then-word_at-entry : goal.returns-then-word_at-entry
returns-then-word_at-entry c = grind (arith, common_steps)

pub loop-entry-preserved : goal.loop-entry-preserved
loop-entry-preserved c = grind (arith, common_steps)

pub returns : goal.returns
returns c = grind (arith, common_steps)

pub word_at-requires : goal.word_at-requires
word_at-requires c = grind (arith, common_steps)
