-- A goal of `World::close` (src/world/calls.rt): after a call on a tenant's file that went well, the status word of the change
-- has its next status.
use Rattle.std.proofs.Common.{refl}
use Rattle.mw_simulator.proofs.CallEndLaws.{closes_well}
use Rattle.mw_simulator.proofs.world.World.close.Goals as goal

pub returns-in-Good-clause-shows : goal.returns-in-Good-clause-shows
returns-in-Good-clause-shows c state shows is =
    closes_well c.args.self.now _ state c.args.tenant c.args.called.change.slot c.pack.result c.args.called.call c.args.status c.status_after-after.result c.args.outcome
    shows refl refl refl refl c.in-Good.is c.status_after-after.ensures.is (c.status_after-after.ensures.in_range c.requires.in_range) c.pack.ensures c.put.ensures.ties
