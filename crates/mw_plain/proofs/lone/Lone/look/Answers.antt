-- Goals of `Lone::look` (src/lone.rt).
use Rattle.std.proofs.Common.{sym, arith}
use Rattle.std.proofs.lemmas.Bool.Decides.{nat_tests}
use Rattle.mw_plain.proofs.Steps.{at_some}
use Rattle.mw_lone.proofs.SoundStores.{sound-insert}
use Rattle.mw_plain.proofs.lone.Lone.look.Goals as goal

pub word_at-value-requires : goal.word_at-value-requires
word_at-value-requires c =
    let fine = c.self.invariant.jobs _ _ (sym c.in-Some.ensures) in
    let h = rw c.in-Get.is at fine in
    rw c.deref.ensures.value (grind (arith, nat_tests))

pub invariant_of-self : goal.invariant_of-self
invariant_of-self c = rw (at_some _ _ _ c.in-Some.ensures c.place.ensures) (sound-insert _ _ _ _ _ (c.self.invariant.jobs _ _ (sym c.in-Some.ensures)) c.self.invariant)
