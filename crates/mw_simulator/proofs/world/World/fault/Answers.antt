-- Goals of `World::fault` (src/world/calls.rt): the door of an existing tenant gets the fault.
use Rattle.std.proofs.Common.{refl, ◌<◌, arith}
use Rattle.mw_world.specs.Definition.State.{tenants_of}
use Rattle.mw_simulator.proofs.CallEndLaws.{faults}
use Rattle.mw_simulator.proofs.world.World.fault.Goals as goal

pub returns-clause-shows : goal.returns-clause-shows
returns-clause-shows c state shows =
    let there : c.args.tenant < tenants_of c.args.self.now.config = omega (arith, c.requires.tenant, c.args.self.now.tenants) in
    faults c.args.self.now _ state _ c.make.result c.args.tenant shows refl refl refl refl refl there c.make.ensures.there c.make.ensures.makes
