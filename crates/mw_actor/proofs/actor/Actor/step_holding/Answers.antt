-- Goals of `Actor::step_holding` (src/actor/asks.rt).
use Rattle.std.proofs.Common.{refl, ap}
use Rattle.mw_look.specs.declared.steps.Op.TheVariants.{Load}
use Rattle.mw_actor.specs.Parts.{Holding}
use Rattle.mw_actor.proofs.PointLaws.{asks_in, fits_at}
use Rattle.mw_actor.proofs.actor.Actor.step_holding.Goals as goal

-- an attempt has the number that the worker announced
pub returns-in-Plant-clause-is : goal.returns-in-Plant-clause-is
returns-in-Plant-clause-is c =
    asks_in Holding c.args.self.now c.self.view_is c.in-Plant.is refl (rw (c.expected.ensures.is, c.word.ensures, c.attempt.ensures) at c.exchange-step.ensures)

-- a load has no values
pub returns-in-ReadOtherRow-clause-is : goal.returns-in-ReadOtherRow-clause-is
returns-in-ReadOtherRow-clause-is c = asks_in Holding c.args.self.now c.self.view_is c.in-ReadOtherRow.is refl refl

pub returns-in-ReadOtherRow-clause-fits : goal.returns-in-ReadOtherRow-clause-fits
returns-in-ReadOtherRow-clause-fits c = fits_at c.args.self.now c.self.view_is c.in-ReadOtherRow.is tt

pub returns-in-ReadDirtyGate-clause-is : goal.returns-in-ReadDirtyGate-clause-is
returns-in-ReadDirtyGate-clause-is c = asks_in Holding c.args.self.now c.self.view_is c.in-ReadDirtyGate.is refl refl

pub returns-in-ReadDirtyGate-clause-fits : goal.returns-in-ReadDirtyGate-clause-fits
returns-in-ReadDirtyGate-clause-fits c = fits_at c.args.self.now c.self.view_is c.in-ReadDirtyGate.is tt

pub returns-in-CheckThenResolve-clause-is : goal.returns-in-CheckThenResolve-clause-is
returns-in-CheckThenResolve-clause-is c = asks_in Holding c.args.self.now c.self.view_is c.in-CheckThenResolve.is refl (ap Load c.status_place.ensures)

pub returns-in-CheckThenResolve-clause-fits : goal.returns-in-CheckThenResolve-clause-fits
returns-in-CheckThenResolve-clause-fits c = fits_at c.args.self.now c.self.view_is c.in-CheckThenResolve.is tt
