-- Goals of `take` (src/race_tests.rt).
use Rattle.mw_core.specs.FromTable.{IsDealt}
use Rattle.mw_table_tests.specs.Worlds.{basis_of_world}
use Rattle.mw_table_tests.proofs.TakenPasses.{left_are, taken_is}
use Rattle.mw_table_tests.proofs.race_tests.take.Goals as goal

-- the pass that is taken is as it was made
pub request_of-requires-clause-dealt : goal.request_of-requires-clause-dealt
request_of-requires-clause-dealt c =
    taken_is (IsDealt c.args.core.now.shared (basis_of_world c.args.world.now c.args.run.now.events)) c.args.passes.now.items c.pop.new.self.items c.pop.result c.in_ok-pass.pass c.pop.ensures.items c.in_ok-pass.was c.requires.dealt

-- so are those that are left
pub returns-clause-left : goal.returns-clause-left
returns-clause-left c = left_are (IsDealt c.args.core.now.shared (basis_of_world c.args.world.now c.args.run.now.events)) c.args.passes.now.items c.pop.new.self.items c.pop.result c.pop.ensures.items c.requires.dealt

pub returns-in_err-pass-clause-left : goal.returns-in_err-pass-clause-left
returns-in_err-pass-clause-left c = left_are (IsDealt c.args.core.now.shared (basis_of_world c.args.world.now c.args.run.now.events)) c.args.passes.now.items c.pop.new.self.items c.pop.result c.pop.ensures.items c.requires.dealt

pub returns-in_err-actor-clause-left : goal.returns-in_err-actor-clause-left
returns-in_err-actor-clause-left c = left_are (IsDealt c.args.core.now.shared (basis_of_world c.args.world.now c.args.run.now.events)) c.args.passes.now.items c.pop.new.self.items c.pop.result c.pop.ensures.items c.requires.dealt

-- the pass that is taken is of the table
pub returns-clause-own : goal.returns-clause-own
returns-clause-own c =
    (taken_is (IsDealt c.args.core.now.shared (basis_of_world c.args.world.now c.args.run.now.events)) c.args.passes.now.items c.pop.new.self.items c.pop.result c.in_ok-pass.pass c.pop.ensures.items c.in_ok-pass.was c.requires.dealt).own

-- it carries the request
pub returns-clause-carried : goal.returns-clause-carried
returns-clause-carried c = c.in_ok-actor.ensures
