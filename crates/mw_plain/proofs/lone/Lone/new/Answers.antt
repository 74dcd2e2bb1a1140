-- Goals of `Lone::new` (src/lone.rt).
use Rattle.std.proofs.Common.{arith}
use Rattle.mw_lone.proofs.SoundStores.{sound-new_store}
use Rattle.std.proofs.lemmas.Grind.{common_steps}
use Rattle.mw_plain.proofs.lone.Lone.new.Goals as goal

pub invariant_of-result : goal.invariant_of-result
invariant_of-result c = rw c.new.ensures (sound-new_store _ _ c.new-2.ensures)

pub returns : goal.returns
returns c = grind (arith, common_steps)
