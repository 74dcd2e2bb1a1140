-- Goals of `Actor::step_leaving` (src/actor/asks.rt).
use Rattle.std.proofs.Common.{refl, ap}
use Rattle.mw_look.specs.declared.steps.Op.TheVariants.{Load}
use Rattle.mw_actor.specs.Parts.{Leaving}
use Rattle.mw_actor.proofs.PointLaws.{asks_in, fits_at}
use Rattle.mw_actor.proofs.actor.Actor.step_leaving.Goals as goal

-- a load and a call on the file have no values
pub returns-in-GiveUp-clause-is : goal.returns-in-GiveUp-clause-is
returns-in-GiveUp-clause-is c = asks_in Leaving c.args.self.now c.self.view_is c.in-GiveUp.is refl (ap Load c.status_place.ensures)

pub returns-in-GiveUp-clause-fits : goal.returns-in-GiveUp-clause-fits
returns-in-GiveUp-clause-fits c = fits_at c.args.self.now c.self.view_is c.in-GiveUp.is tt

pub returns-in-Replied-clause-is : goal.returns-in-Replied-clause-is
returns-in-Replied-clause-is c = asks_in Leaving c.args.self.now c.self.view_is c.in-Replied.is refl (ap Load c.door-in-Replied.ensures)

pub returns-in-Replied-clause-fits : goal.returns-in-Replied-clause-fits
returns-in-Replied-clause-fits c = fits_at c.args.self.now c.self.view_is c.in-Replied.is tt
