-- Goals of `are_apart` (src/calls.rt).
use Rattle.std.proofs.Common.{arith}
use Rattle.std.proofs.lemmas.Grind.{common_steps}
use Rattle.mw_file_tests.proofs.calls.are_apart.Goals as goal

pub returns-then-writes_at : goal.returns-then-writes_at
returns-then-writes_at c = grind (arith, common_steps)

pub returns : goal.returns
returns c = grind (arith, common_steps)

pub loop-write-preserved : goal.loop-write-preserved
loop-write-preserved c = grind (arith, common_steps)
