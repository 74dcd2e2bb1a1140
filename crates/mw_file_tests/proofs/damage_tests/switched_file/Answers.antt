-- Goals of `switched_file` (src/damage_tests.rt).
use Rattle.std.proofs.Common.{arith}
use Rattle.std.proofs.lemmas.Grind.{common_steps}
use Rattle.mw_file_tests.proofs.damage_tests.switched_file.Goals as goal

pub slice_bounds-file-end-2 : goal.slice_bounds-file-end-2
slice_bounds-file-end-2 c = grind (arith, common_steps)
