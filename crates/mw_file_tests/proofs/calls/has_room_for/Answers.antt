-- Goals of `has_room_for` (src/calls.rt).
use Rattle.std.proofs.Common.{arith}
use Rattle.std.proofs.lemmas.Grind.{common_steps}
use Rattle.mw_file_tests.proofs.calls.has_room_for.Goals as goal

pub returns : goal.returns
returns c = grind (arith, common_steps)

pub loop-change-preserved : goal.loop-change-preserved
loop-change-preserved c = grind (arith, common_steps)

pub returns-then-not-has_room : goal.returns-then-not-has_room
returns-then-not-has_room c = grind (arith, common_steps)
