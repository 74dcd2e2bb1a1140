-- Goals of `after` (src/worlds.rt).
use Rattle.mw_table_tests.proofs.NewPassesOfWorlds.{reached_on}
use Rattle.mw_table_tests.proofs.worlds.after.Goals as goal

pub returns-in-Ok-clause-reached : goal.returns-in-Ok-clause-reached
returns-in-Ok-clause-reached c = let run = c.requires.reached in reached_on c.step.new.self run.0 _ c.step.result (c.step.ensures.stands run.0 run.1)
