-- Goals of `found_in` (src/making_tests.rt).
use Rattle.std.proofs.Common.{ap, subst, sym, ◌∙◌}
use Rattle.std.specs.Prelude.{List, ◌≤◌}
use Rattle.mw_core.specs.FromTable.{Basis}
use Rattle.mw_world.specs.Definition.Events.{WorldEvent}
use Rattle.mw_world.specs.Definition.State.{tenants_of}
use Rattle.mw_simulator.specs.Events.{IsAfterRun}
use Rattle.mw_table_tests.specs.Worlds.{basis_of_world}
use Rattle.mw_table_tests.proofs.making_tests.found_in.Goals as goal

-- no event has happened
pub of_world-requires : goal.of_world-requires
of_world-requires c = subst (λ (before : List WorldEvent). IsAfterRun c.args.world.now before) (sym c.none.ensures) c.requires.new

-- the passes are those that were made
pub found_by_two-requires-clause-dealt : goal.found_by_two-requires-clause-dealt
found_by_two-requires-clause-dealt c = (basis_of_world c.args.world.now c.none.result.events, c.in-Ok.ensures.passes)

-- the table's pool is the world's
pub found_by_two-requires-clause-pool : goal.found_by_two-requires-clause-pool
found_by_two-requires-clause-pool c = ap (λ (basis : Basis). basis.config.pool) c.in-Ok.ensures.table ∙ c.requires.pool

-- and so are its tenants
pub found_by_two-requires-clause-tenants : goal.found_by_two-requires-clause-tenants
found_by_two-requires-clause-tenants c = subst (λ (basis : Basis). 1 ≤ tenants_of basis.config) (sym c.in-Ok.ensures.table) c.requires.tenants
