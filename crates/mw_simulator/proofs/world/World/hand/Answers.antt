-- Goals of `World::hand` (src/world/turns.rt): making room leaves the tenants' files unchanged.
use Rattle.std.proofs.Common.{◌∙◌}
use Rattle.mw_simulator.proofs.Unchanged.{unchanged_books}
use Rattle.mw_simulator.proofs.world.World.hand.Goals as goal

pub returns-then-is_err-clause-files : goal.returns-then-is_err-clause-files
returns-then-is_err-clause-files c = unchanged_books c.args.self.now c.reserve.new.self c.reserve.ensures.unchanged

pub returns-clause-files : goal.returns-clause-files
returns-clause-files c tenant = c.give.ensures.files tenant ∙ unchanged_books c.args.self.now c.reserve.new.self c.reserve.ensures.unchanged tenant
