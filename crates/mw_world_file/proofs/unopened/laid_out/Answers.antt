-- Goals of `laid_out` (src/unopened.rt).
use Rattle.std.proofs.Common.{arith}
use Rattle.std.proofs.lemmas.Grind.{common_steps}
use Rattle.mw_world_file.proofs.unopened.laid_out.Goals as goal

pub returns : goal.returns
returns c = grind (arith, common_steps)
