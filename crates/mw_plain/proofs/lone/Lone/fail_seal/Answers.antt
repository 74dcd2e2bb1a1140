-- Goals of `Lone::fail_seal` (src/lone.rt), a step of the reference model: a precondition in it, and the model's invariant after
-- it.
use Rattle.std.proofs.Common.{sym, length}
use Rattle.mw_plain.proofs.Steps.{at_some}
use Rattle.mw_lone.proofs.SoundStores.{sound-insert, sound-in_doubt, entries-fit}
use Rattle.mw_plain.proofs.lone.Lone.fail_seal.Goals as goal

pub may_be_written-requires : goal.may_be_written-requires
may_be_written-requires c = rw c.deref.ensures.value (c.self.invariant.jobs _ _ (sym c.in-Some.ensures))

pub invariant_of-self : goal.invariant_of-self
invariant_of-self c =
    let n = length c.self.inside.words.items in
    let es = entries-fit n c.in-Some.request.now.job (c.self.invariant.jobs _ _ (sym c.in-Some.ensures)) in
    rw (at_some _ _ _ c.in-Some.ensures c.place.ensures, c.entries-self-inside.ensures) (sound-insert _ _ _ _ _ (c.self.invariant.jobs _ _ (sym c.in-Some.ensures)) (sound-in_doubt _ _ _ _ es c.self.invariant))
