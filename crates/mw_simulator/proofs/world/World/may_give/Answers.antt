-- Goals of `World::may_give` (src/world/restarts.rt).
use Rattle.mw_simulator.proofs.Quotas.{cannot_give, has_room, together_gives}
use Rattle.mw_simulator.proofs.world.World.may_give.Goals as goal

pub returns-then-not-each_can_be-clause-shown : goal.returns-then-not-each_can_be-clause-shown
returns-then-not-each_can_be-clause-shown c state shows =
    cannot_give c.args.self.now c.args.stops.now c.deref.result.now c.deref.ensures.value c.each_can_be.result c.each_can_be.ensures state shows c.if-not-each_can_be.true

pub returns-clause-room : goal.returns-clause-room
returns-clause-room c gives =
    has_room c.args.self.now c.args.stops.now c.deref.result.now c.deref.ensures.value c.each_can_be.result c.each_can_be.ensures c.if-not-each_can_be.false

pub returns-clause-shown : goal.returns-clause-shown
returns-clause-shown c state shows =
    together_gives c.args.self.now c.args.stops.now c.deref.result.now c.deref.ensures.value c.each_can_be.result c.each_can_be.ensures state shows c.if-not-each_can_be.false
    c.deref-2.result.now c.all_together.result c.deref-2.ensures.value c.all_together.ensures
