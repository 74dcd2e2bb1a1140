-- Goals of `new_bytes` (src/new_books.rt).
use Rattle.std.proofs.Common.{arith}
use Rattle.std.proofs.lemmas.Grind.{common_steps}
use Rattle.mw_world_file.proofs.new_books.new_bytes.Goals as goal

pub returns : goal.returns
returns c = grind (arith, common_steps)
