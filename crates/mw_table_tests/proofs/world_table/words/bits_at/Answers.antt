-- Goals of `bits_at` (src/world_table/words.rt).
use Rattle.std.proofs.Common.{ap, sym, ◌∙◌}
use Rattle.mw_world.specs.declared.config.Config.{Config}
use Rattle.mw_world.specs.Definition.Extent.{has_place}
use Rattle.mw_table.specs.Places.{place_at}
use Rattle.mw_table.proofs.PlacesAtIndexes.{bits_are, none_is}
use Rattle.mw_table_tests.proofs.world_table.words.bits_at.Goals as goal

pub returns-then-has_place : goal.returns-then-has_place
returns-then-has_place c = λ state shows.
    bits_are c.args.world.now.config state.cells c.args.index c.word.result c.place_at-at.result c.args.world.now.configured
    (c.place_at-at.ensures ∙ ap (λ (config : Config). place_at config.pool c.args.index) c.config.ensures) (c.word.ensures state shows)

pub returns-else-has_place : goal.returns-else-has_place
returns-else-has_place c = λ state shows.
    none_is c.args.world.now.config state.cells c.args.index 0 c.place_at-at.result c.args.world.now.configured
    (c.place_at-at.ensures ∙ ap (λ (config : Config). place_at config.pool c.args.index) c.config.ensures)
    (ap (λ (config : Config). has_place config c.place_at-at.result) (sym c.config-2.ensures) ∙ (sym c.has_place.ensures ∙ c.if-has_place.false))
