-- Goals of `free_place` (src/tenant_file.rt).
use Rattle.std.proofs.Common.{arith}
use Rattle.std.proofs.lemmas.Grind.{common_steps}
use Rattle.mw_file.proofs.tenant_file.free_place.Goals as goal

pub returns-then-eq-clause-lowest : goal.returns-then-eq-clause-lowest
returns-then-eq-clause-lowest c = grind (arith, common_steps)

pub returns-clause-lowest : goal.returns-clause-lowest
returns-clause-lowest c = grind (arith, common_steps)

pub loop-place-preserved : goal.loop-place-preserved
loop-place-preserved c = grind (arith, common_steps)
