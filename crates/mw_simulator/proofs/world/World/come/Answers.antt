-- Goals of `World::come` (src/world/turns.rt): making room leaves the tenants' files unchanged.
use Rattle.std.proofs.Common.{sym, ◌∙◌}
use Rattle.mw_simulator.proofs.CallEndLaws.{room_if}
use Rattle.mw_simulator.proofs.Unchanged.{unchanged_books}
use Rattle.mw_simulator.proofs.world.World.come.Goals as goal

pub begin-requires-clause-room : goal.begin-requires-clause-room
begin-requires-clause-room c = room_if c.reserve.result _ c.reserve.ensures.room (sym c.is_err.ensures.value ∙ c.if-is_err.false)

pub returns-then-is_err-clause-files : goal.returns-then-is_err-clause-files
returns-then-is_err-clause-files c = unchanged_books c.args.self.now c.reserve.new.self c.reserve.ensures.unchanged

pub returns-clause-files : goal.returns-clause-files
returns-clause-files c tenant = c.begin.ensures.files tenant ∙ unchanged_books c.args.self.now c.reserve.new.self c.reserve.ensures.unchanged tenant
