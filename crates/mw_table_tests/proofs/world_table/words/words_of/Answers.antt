-- Goals of `words_of` (src/world_table/words.rt): the words are those of the world, by index.
use Rattle.std.proofs.Common.{arith, slice_index, subst, sym}
use Rattle.std.proofs.lemmas.Grind.{common_steps}
use Rattle.mw_world.specs.declared.config.Config.{Config}
use Rattle.mw_world.specs.Definition.State.{IsConfig}
use Rattle.mw_rule.specs.Rule.{BitsMatch}
use Rattle.mw_table.specs.Places.{IsAt}
use Rattle.mw_table.proofs.PlacesAtIndexes.{ties_so}
use Rattle.mw_table_tests.proofs.world_table.words.words_of.Goals as goal

-- one more word is copied
pub loop-index-preserved : goal.loop-index-preserved
loop-index-preserved c = grind (arith, common_steps)

pub returns-clause-ties : goal.returns-clause-ties
returns-clause-ties c = λ state shows.
    let config = c.config-config.result.now in
    let words = c.loop-index.words.items in
    let made : IsConfig config = subst (λ (one : Config). IsConfig one) (sym c.config-config.ensures) c.args.world.now.configured in
    subst (λ (one : Config). BitsMatch one state.cells words) c.config-config.ensures
    (ties_so config state.cells words made
    (λ k low. subst (λ (one : Config). IsAt one state.cells k (slice_index words k)) (sym c.config-config.ensures)
    (c.loop-index.invariant.placed state shows k (omega (arith, low, c.loop-index-test.false, c.index_of-count.ensures, c.len.ensures.value, made.tenants)))))
