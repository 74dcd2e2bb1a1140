-- Goals of `Lone::seal` (src/lone.rt).
use Rattle.std.proofs.Common.{sym, arith, length}
use Rattle.mw_plain.proofs.Steps.{at_some, length-back}
use Rattle.mw_lone.proofs.SoundStores.{sound-insert, sound-words, entries-fit}
use Rattle.std.proofs.lemmas.Grind.{common_steps}
use Rattle.mw_plain.proofs.lone.Lone.seal.Goals as goal

pub may_be_written-requires : goal.may_be_written-requires
may_be_written-requires c = rw c.deref.ensures.value (c.self.invariant.jobs _ _ (sym c.in-Some.ensures))

pub put-requires : goal.put-requires
put-requires c =
    let n = length c.self.inside.words.items in
    rw (c.deref_mut.ensures.value, c.deref-2.ensures.0, c.entries-entries.ensures) (entries-fit n c.in-Some.request.now.job (c.self.invariant.jobs _ _ (sym c.in-Some.ensures)))

pub invariant_of-self : goal.invariant_of-self
invariant_of-self c =
    let same = length-back c.self.inside.words.len c.put.new.words c.self.inside.words.items (omega arith) (omega arith) in
    rw (at_some _ _ _ c.in-Some.ensures c.place.ensures) (sound-words _ _ _ _ same (sound-insert _ _ _ _ _ (c.self.invariant.jobs _ _ (sym c.in-Some.ensures)) c.self.invariant))

pub returns : goal.returns
returns c = grind (arith, common_steps)
