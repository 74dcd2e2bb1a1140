-- Goals of `Cells::get` (src/cells.rt).
use Rattle.std.proofs.Common.{◌∙◌}
use Rattle.mw_world_memory.proofs.BitsMatchLaws.{found_is}
use Rattle.mw_world_memory.proofs.cells.Cells.get.Goals as goal

pub returns : goal.returns
returns c = record { is = c.bits.ensures; tied = λ cells tie. c.bits.ensures ∙ found_is c.args.self.now cells c.args.at tie }
