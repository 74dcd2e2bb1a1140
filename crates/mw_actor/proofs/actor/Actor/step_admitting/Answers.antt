-- Goals of `Actor::step_admitting` (src/actor/asks.rt).
use Rattle.std.proofs.Common.{refl, ap}
use Rattle.mw_look.specs.declared.steps.Op.TheVariants.{Load}
use Rattle.mw_actor.specs.Parts.{Admitting}
use Rattle.mw_actor.proofs.PointLaws.{asks_in, fits_at}
use Rattle.mw_actor.proofs.actor.Actor.step_admitting.Goals as goal

-- a load and a call on the file have no values
pub returns-in-ReadDoor-clause-is : goal.returns-in-ReadDoor-clause-is
returns-in-ReadDoor-clause-is c = asks_in Admitting c.args.self.now c.self.view_is c.in-ReadDoor.is refl (ap Load c.door.ensures)

pub returns-in-ReadDoor-clause-fits : goal.returns-in-ReadDoor-clause-fits
returns-in-ReadDoor-clause-fits c = fits_at c.args.self.now c.self.view_is c.in-ReadDoor.is tt

pub returns-in-ScanGate-clause-is : goal.returns-in-ScanGate-clause-is
returns-in-ScanGate-clause-is c = asks_in Admitting c.args.self.now c.self.view_is c.in-ScanGate.is refl refl

pub returns-in-ScanGate-clause-fits : goal.returns-in-ScanGate-clause-fits
returns-in-ScanGate-clause-fits c = fits_at c.args.self.now c.self.view_is c.in-ScanGate.is tt

pub returns-in-Prepare-clause-is : goal.returns-in-Prepare-clause-is
returns-in-Prepare-clause-is c = asks_in Admitting c.args.self.now c.self.view_is c.in-Prepare.is refl c.file-step.ensures

pub returns-in-Prepare-clause-fits : goal.returns-in-Prepare-clause-fits
returns-in-Prepare-clause-fits c = fits_at c.args.self.now c.self.view_is c.in-Prepare.is tt
