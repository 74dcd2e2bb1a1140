-- Goals of `PlaceState::copy` (src/place_states.rt).
use Rattle.std.proofs.Common.{arith}
use Rattle.std.proofs.lemmas.Grind.{common_steps}
use Rattle.mw_file.proofs.place_states.PlaceState.copy.Goals as goal

pub loop-write-preserved : goal.loop-write-preserved
loop-write-preserved c = grind (arith, common_steps)

pub returns : goal.returns
returns c = grind (arith, common_steps)
