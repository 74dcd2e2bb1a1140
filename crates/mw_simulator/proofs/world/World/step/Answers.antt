-- Goals of `World::step` (src/world/events.rt): the run so far, and this event after it, have happened.
use Rattle.mw_simulator.proofs.OneMoreEvent.{stands_after}
use Rattle.mw_simulator.proofs.InvariantLaws.{holds}
use Rattle.mw_simulator.proofs.ServiceAloneLaws.{serves}
use Rattle.mw_simulator.proofs.world.World.step.Goals as goal

pub returns-clause-stands : goal.returns-clause-stands
returns-clause-stands c happened stands =
    stands_after c.args.self.now c.apply.new.self happened c.args.event c.apply.result c.apply.ensures.config c.apply.ensures.happens stands

pub returns-clause-holds : goal.returns-clause-holds
returns-clause-holds c = holds _

pub returns-clause-serves : goal.returns-clause-serves
returns-clause-serves c = serves _
