-- Goals of `take_idle` (src/race_tests.rt).
use Rattle.mw_core.specs.FromTable.{IsDealt}
use Rattle.mw_table_tests.specs.Worlds.{basis_of_world}
use Rattle.mw_table_tests.proofs.TakenPasses.{left_are, taken_is}
use Rattle.mw_table_tests.proofs.race_tests.take_idle.Goals as goal

-- the passes that are left are as they were made
pub returns-then-idle-clause-left : goal.returns-then-idle-clause-left
returns-then-idle-clause-left c = left_are (IsDealt c.args.core.now.shared (basis_of_world c.args.world.now c.args.run.now.events)) c.args.passes.now.items c.pop.new.self.items c.pop.result c.pop.ensures.items c.requires.dealt

pub returns-else-worker-eq2-clause-left : goal.returns-else-worker-eq2-clause-left
returns-else-worker-eq2-clause-left c = left_are (IsDealt c.args.core.now.shared (basis_of_world c.args.world.now c.args.run.now.events)) c.args.passes.now.items c.pop.new.self.items c.pop.result c.pop.ensures.items c.requires.dealt

pub returns-in_err-pass-clause-left : goal.returns-in_err-pass-clause-left
returns-in_err-pass-clause-left c = left_are (IsDealt c.args.core.now.shared (basis_of_world c.args.world.now c.args.run.now.events)) c.args.passes.now.items c.pop.new.self.items c.pop.result c.pop.ensures.items c.requires.dealt

-- the pass that is taken is of the table
pub returns-then-idle-clause-own : goal.returns-then-idle-clause-own
returns-then-idle-clause-own c =
    (taken_is (IsDealt c.args.core.now.shared (basis_of_world c.args.world.now c.args.run.now.events)) c.args.passes.now.items c.pop.new.self.items c.pop.result c.in_ok-pass.pass c.pop.ensures.items c.in_ok-pass.was c.requires.dealt).own
