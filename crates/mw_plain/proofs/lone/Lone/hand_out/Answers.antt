-- Goals of `Lone::hand_out` (src/lone.rt).
use Rattle.std.proofs.Common.{sym}
use Rattle.mw_plain.proofs.Steps.{at_some}
use Rattle.mw_lone.proofs.SoundStores.{sound-insert}
use Rattle.mw_plain.proofs.lone.Lone.hand_out.Goals as goal

pub invariant_of-self : goal.invariant_of-self
invariant_of-self c = rw (at_some _ _ _ c.in-Some.ensures c.hand_out.ensures) (sound-insert _ _ _ _ _ (c.self.invariant.jobs _ _ (sym c.in-Some.ensures)) c.self.invariant)
