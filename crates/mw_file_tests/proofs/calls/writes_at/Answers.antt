-- Goals of `writes_at` (src/calls.rt).
use Rattle.std.proofs.Common.{arith}
use Rattle.std.proofs.lemmas.Grind.{common_steps}
use Rattle.mw_file_tests.proofs.calls.writes_at.Goals as goal

pub loop-write-preserved : goal.loop-write-preserved
loop-write-preserved c = grind (arith, common_steps)

pub returns : goal.returns
returns c = grind (arith, common_steps)

pub returns-then-write-addr : goal.returns-then-write-addr
returns-then-write-addr c = grind (arith, common_steps)
