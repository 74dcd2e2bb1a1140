-- Goals of `paste` (src/edits.rt).
use Rattle.std.proofs.Common.{arith}
use Rattle.std.proofs.lemmas.Grind.{common_steps}
use Rattle.mw_memory_disk.proofs.edits.paste.Goals as goal

pub returns : goal.returns
returns c = grind (arith, common_steps)
