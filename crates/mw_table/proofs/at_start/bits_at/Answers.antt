-- Goals of `bits_at` (src/at_start.rt).
use Rattle.mw_table.specs.TableAtStart.{world_given}
use Rattle.mw_table.proofs.PlacesAtIndexes.{bits_are}
use Rattle.mw_table.proofs.at_start.bits_at.Goals as goal

pub returns-then-has_place : goal.returns-then-has_place
returns-then-has_place c =
    bits_are c.args.config.now (world_given c.args.config.now c.args.openings.now).cells c.args.index c.bits_of.result c.place_at-at.result c.requires.config
    c.place_at-at.ensures c.bits_of.ensures
