-- Goals of `LoadedFile::start` (src/loaded_file.rt).
use Rattle.std.proofs.Common.{arith}
use Rattle.std.proofs.lemmas.Grind.{common_steps}
use Rattle.mw_plain.proofs.loaded_file.LoadedFile.start.Goals as goal

pub returns-then-self-clause-ends : goal.returns-then-self-clause-ends
returns-then-self-clause-ends c = grind (arith, common_steps)
