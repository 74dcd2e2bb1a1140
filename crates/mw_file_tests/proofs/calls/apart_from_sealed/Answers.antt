-- Goals of `apart_from_sealed` (src/calls.rt).
use Rattle.std.proofs.Common.{arith}
use Rattle.std.proofs.lemmas.Grind.{common_steps}
use Rattle.mw_file_tests.proofs.calls.apart_from_sealed.Goals as goal

pub loop-state-preserved : goal.loop-state-preserved
loop-state-preserved c = grind (arith, common_steps)

pub returns : goal.returns
returns c = grind (arith, common_steps)

pub returns-then-not-is_apart : goal.returns-then-not-is_apart
returns-then-not-is_apart c = grind (arith, common_steps)
