-- Goals of `Lone::retire` (src/lone.rt).
use Rattle.std.proofs.Common.{sym, arith}
use Rattle.mw_plain.proofs.Steps.{at_some}
use Rattle.mw_lone.proofs.SoundStores.{sound-insert}
use Rattle.std.proofs.lemmas.Grind.{common_steps}
use Rattle.mw_plain.proofs.lone.Lone.retire.Goals as goal

pub invariant_of-self : goal.invariant_of-self
invariant_of-self c = rw (at_some _ _ _ c.in-Some.ensures c.retire.ensures) (sound-insert _ _ _ _ _ (c.self.invariant.jobs _ _ (sym c.in-Some.ensures)) c.self.invariant)

pub retire-requires : goal.retire-requires
retire-requires c = grind (arith, common_steps)
