-- Goals of `Actor::step_helping` (src/actor/asks.rt).
use Rattle.std.proofs.Common.{refl, ap}
use Rattle.mw_look.specs.declared.steps.Op.TheVariants.{Load}
use Rattle.mw_actor.specs.Parts.{Helping}
use Rattle.mw_actor.proofs.PointLaws.{asks_in, fits_at}
use Rattle.mw_actor.proofs.actor.Actor.step_helping.Goals as goal

-- a load and a call on the file have no values
pub returns-in-ReadOtherGate-clause-is : goal.returns-in-ReadOtherGate-clause-is
returns-in-ReadOtherGate-clause-is c = asks_in Helping c.args.self.now c.self.view_is c.in-ReadOtherGate.is refl (ap Load c.gate_place.ensures)

pub returns-in-ReadOtherGate-clause-fits : goal.returns-in-ReadOtherGate-clause-fits
returns-in-ReadOtherGate-clause-fits c = fits_at c.args.self.now c.self.view_is c.in-ReadOtherGate.is tt

pub returns-in-ReadCount-clause-is : goal.returns-in-ReadCount-clause-is
returns-in-ReadCount-clause-is c = asks_in Helping c.args.self.now c.self.view_is c.in-ReadCount.is refl (ap Load c.count_place.ensures)

pub returns-in-ReadCount-clause-fits : goal.returns-in-ReadCount-clause-fits
returns-in-ReadCount-clause-fits c = fits_at c.args.self.now c.self.view_is c.in-ReadCount.is tt

pub returns-in-ReadAddr-clause-fits : goal.returns-in-ReadAddr-clause-fits
returns-in-ReadAddr-clause-fits c = fits_at c.args.self.now c.self.view_is c.in-ReadAddr.is tt

pub returns-in-ReadExpected-clause-fits : goal.returns-in-ReadExpected-clause-fits
returns-in-ReadExpected-clause-fits c = fits_at c.args.self.now c.self.view_is c.in-ReadExpected.is tt

pub returns-in-ReadNew-clause-fits : goal.returns-in-ReadNew-clause-fits
returns-in-ReadNew-clause-fits c = fits_at c.args.self.now c.self.view_is c.in-ReadNew.is tt
