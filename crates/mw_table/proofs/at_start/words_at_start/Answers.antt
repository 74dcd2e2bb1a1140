-- Goals of `words_at_start` (src/at_start.rt).
use Rattle.std.proofs.Common.{arith}
use Rattle.mw_table.specs.TableAtStart.{world_given}
use Rattle.mw_table.proofs.PlacesAtIndexes.{ties_so}
use Rattle.mw_table.proofs.at_start.words_at_start.Goals as goal

pub returns-clause-ties : goal.returns-clause-ties
returns-clause-ties c =
    let config = c.args.config.now in
    let made = c.requires.config in
    ties_so config (world_given config c.args.openings.now).cells c.loop-index.words.items made
    (λ k low. c.loop-index.invariant.placed k (omega (arith, low, c.loop-index-test.false, c.index_of-count.ensures, c.len.ensures.value, made.tenants)))
