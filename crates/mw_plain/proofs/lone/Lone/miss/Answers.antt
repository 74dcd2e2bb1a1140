-- Goals of `Lone::miss` (src/lone.rt).
use Rattle.std.proofs.Common.{sym, length}
use Rattle.mw_plain.proofs.Steps.{at_some}
use Rattle.mw_lone.proofs.SoundStores.{sound-insert, entries-fit, entry-fits}
use Rattle.mw_plain.proofs.lone.Lone.miss.Goals as goal

pub word_at-value-requires : goal.word_at-value-requires
word_at-value-requires c =
    let n = length c.self.inside.words.items in
    let job = c.in-Some.request.now.job in
    rw c.deref.ensures.value (entry-fits n _ _ _ (entries-fit n job (c.self.invariant.jobs _ _ (sym c.in-Some.ensures))) (sym c.in-Some-entry.ensures))

pub invariant_of-self : goal.invariant_of-self
invariant_of-self c = rw (at_some _ _ _ c.in-Some.ensures c.place.ensures) (sound-insert _ _ _ _ _ (c.self.invariant.jobs _ _ (sym c.in-Some.ensures)) c.self.invariant)
