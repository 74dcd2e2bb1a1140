-- Goals of `of_world` (src/world_table/from_world.rt).
use Rattle.std.proofs.Common.{ap, map, ◌∙◌}
use Rattle.mw_table_tests.specs.Worlds.{actor_of}
use Rattle.mw_table_tests.proofs.MadeWorlds.{actors_are}
use Rattle.mw_table_tests.proofs.world_table.from_world.of_world.Goals as goal

-- the table and its passes are those that were made
pub returns-clause-table : goal.returns-clause-table
returns-clause-table c = c.in_ok-shared.ensures.table

pub returns-clause-count : goal.returns-clause-count
returns-clause-count c = c.in_ok-shared.ensures.count

pub returns-clause-passes : goal.returns-clause-passes
returns-clause-passes c = c.in_ok-shared.ensures.passes

pub returns-clause-order : goal.returns-clause-order
returns-clause-order c = c.in_ok-shared.ensures.order

-- the requests are the world's
pub returns-clause-actors : goal.returns-clause-actors
returns-clause-actors c = λ state shows.
    actors_are c.args.world.now state c.in_ok-actors.actors.items (c.in_ok-actors.ensures ∙ ap (map actor_of) c.worker_states.ensures) shows
