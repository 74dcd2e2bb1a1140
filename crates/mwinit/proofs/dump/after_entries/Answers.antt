-- Goals of `after_entries` (src/dump.rt).
use Rattle.mwinit.proofs.Dumps.{entries_and_next}
use Rattle.mwinit.proofs.dump.after_entries.Goals as goal

pub loop-preserved : goal.loop-preserved
loop-preserved c = entries_and_next c.args.text.now c.loop.rest.now c.in_ok-behind.field-0 c.in-Some.behind c.loop.invariant c.in_ok-behind.ensures c.in-Some.is
