-- Goals of `first_miss` (src/changes.rt).
use Rattle.std.proofs.Common.{arith}
use Rattle.std.proofs.lemmas.Grind.{common_steps}
use Rattle.std.proofs.lemmas.Option.{slice_get-get_or}
use Rattle.mw_plain.proofs.EntryComparison.{one_more_fits}
use Rattle.mw_plain.proofs.changes.first_miss.Goals as goal

pub returns-then-words-entry : goal.returns-then-words-entry
returns-then-words-entry c = record {
  index = c.loop-entry.entry-index;
  here = slice_get-get_or _ _ _ c.loop-entry-test.true;
  before = c.loop-entry.invariant.2;
  within = grind (arith, common_steps);
  differs = c.if-words-entry.true;
}

pub loop-entry-preserved : goal.loop-entry-preserved
loop-entry-preserved c = (
  grind (arith, common_steps),
  grind (arith, common_steps),
  one_more_fits _ _ _ _ c.loop-entry-test.true c.loop-entry.invariant.2 c.if-words-entry.false,
)

pub bounds-words-entry : goal.bounds-words-entry
bounds-words-entry c = grind (arith, common_steps)

pub returns : goal.returns
returns c = grind (arith, common_steps)
