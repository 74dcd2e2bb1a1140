-- Goals of `are_well` (src/health.rt).
use Rattle.std.proofs.Common.{arith}
use Rattle.std.proofs.lemmas.Grind.{common_steps}
use Rattle.mw_server_pages.proofs.health.are_well.Goals as goal

pub returns-then-not-is_well : goal.returns-then-not-is_well
returns-then-not-is_well c = grind (arith, common_steps)

pub loop-tenant-preserved : goal.loop-tenant-preserved
loop-tenant-preserved c = grind (arith, common_steps)

pub returns : goal.returns
returns c = grind (arith, common_steps)
