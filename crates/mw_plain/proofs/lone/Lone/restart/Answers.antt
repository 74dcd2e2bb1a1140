-- Goals of `Lone::restart` (src/lone.rt).
use Rattle.std.proofs.Common.{arith}
use Rattle.mw_lone.proofs.SoundStores.{sound-new_store}
use Rattle.std.proofs.lemmas.Grind.{common_steps}
use Rattle.mw_plain.proofs.lone.Lone.restart.Goals as goal

pub invariant_of-self : goal.invariant_of-self
invariant_of-self c = rw c.restart.ensures (sound-new_store _ _ c.new-self-inside.ensures)

pub returns : goal.returns
returns c = grind (arith, common_steps)
