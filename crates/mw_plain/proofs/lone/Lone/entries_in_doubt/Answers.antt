-- Goals of `Lone::entries_in_doubt` (src/lone.rt).
use Rattle.std.proofs.Common.{sym, length}
use Rattle.mw_lone.proofs.SoundStores.{entries-fit}
use Rattle.mw_plain.proofs.lone.Lone.entries_in_doubt.Goals as goal

pub may_be_written-requires : goal.may_be_written-requires
may_be_written-requires c = rw c.deref.ensures.value (c.self.invariant.jobs _ _ (sym (rw c.in_ok-request.was at c.get.ensures)))

pub returns-clause-fits : goal.returns-clause-fits
returns-clause-fits c =
    let fine = c.self.invariant.jobs _ _ (sym (rw c.in_ok-request.was at c.get.ensures)) in
    rw (← c.self.view_is, c.entries.ensures) (entries-fit (length c.self.inside.words.items) c.in_ok-request.request.now.job fine)
