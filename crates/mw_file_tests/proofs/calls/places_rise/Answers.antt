-- Goals of `places_rise` (src/calls.rt).
use Rattle.std.proofs.Common.{arith}
use Rattle.std.proofs.lemmas.Grind.{common_steps}
use Rattle.mw_file_tests.proofs.calls.places_rise.Goals as goal

pub returns-then-from-lowest : goal.returns-then-from-lowest
returns-then-from-lowest c = grind (arith, common_steps)

pub loop-change-preserved : goal.loop-change-preserved
loop-change-preserved c = grind (arith, common_steps)

pub returns : goal.returns
returns c = grind (arith, common_steps)
