-- Goals of `new_world` (src/worlds.rt).
use Rattle.std.specs.Prelude.{[]}
use Rattle.mw_table_tests.proofs.worlds.new_world.Goals as goal

pub returns-in-Ok-clause-reached : goal.returns-in-Ok-clause-reached
returns-in-Ok-clause-reached c = ([], c.in-Ok.ensures.stands)
