-- Goals of `Lone::admit` (src/lone.rt).
use Rattle.std.proofs.Common.{sym}
use Rattle.mw_plain.proofs.Steps.{at_some}
use Rattle.mw_lone.proofs.SoundStores.{sound-insert}
use Rattle.mw_plain.proofs.lone.Lone.admit.Goals as goal

pub invariant_of-self : goal.invariant_of-self
invariant_of-self c = rw (at_some _ _ _ c.in-Some.ensures c.admit.ensures) (sound-insert _ _ _ _ _ (c.self.invariant.jobs _ _ (sym c.in-Some.ensures)) c.self.invariant)
