-- Goals of `Actor::step_deciding` (src/actor/asks.rt).
use Rattle.std.proofs.Common.{refl, ap}
use Rattle.mw_look.specs.declared.steps.Op.TheVariants.{Load}
use Rattle.mw_actor.specs.Parts.{Deciding}
use Rattle.mw_actor.proofs.PointLaws.{asks_in, fits_at}
use Rattle.mw_actor.proofs.actor.Actor.step_deciding.Goals as goal

-- the status of the target is loaded
pub returns-in-ReadTargetStatus-clause-is : goal.returns-in-ReadTargetStatus-clause-is
returns-in-ReadTargetStatus-clause-is c = asks_in Deciding c.args.self.now c.self.view_is c.in-ReadTargetStatus.is refl (ap Load c.status_place.ensures)

-- a load has no values
pub returns-in-ReadTargetStatus-clause-fits : goal.returns-in-ReadTargetStatus-clause-fits
returns-in-ReadTargetStatus-clause-fits c = fits_at c.args.self.now c.self.view_is c.in-ReadTargetStatus.is tt

-- YES is decided before the change is sealed: its status is YesDirty
pub returns-in-DecideYes-clause-is : goal.returns-in-DecideYes-clause-is
returns-in-DecideYes-clause-is c = asks_in Deciding c.args.self.now c.self.view_is c.in-DecideYes.is refl c.decide-step.ensures

-- both statuses are in range
pub returns-in-DecideYes-clause-fits : goal.returns-in-DecideYes-clause-fits
returns-in-DecideYes-clause-fits c = fits_at c.args.self.now c.self.view_is c.in-DecideYes.is (tt, tt)

-- NO names the entry and the value that was found
pub returns-in-DecideNo-clause-is : goal.returns-in-DecideNo-clause-is
returns-in-DecideNo-clause-is c = asks_in Deciding c.args.self.now c.self.view_is c.in-DecideNo.is refl c.decide-step-in-DecideNo.ensures

-- both are in range at this point
pub returns-in-DecideNo-clause-fits : goal.returns-in-DecideNo-clause-fits
returns-in-DecideNo-clause-fits c =
    let found = rw c.in-DecideNo.is at c.self.invariant.point in
    fits_at c.args.self.now c.self.view_is c.in-DecideNo.is (tt, (found.1, found.2))

-- each call on the file is for the target's slot, and has no values
pub returns-in-Seal-clause-is : goal.returns-in-Seal-clause-is
returns-in-Seal-clause-is c = asks_in Deciding c.args.self.now c.self.view_is c.in-Seal.is refl c.file-step.ensures

pub returns-in-Seal-clause-fits : goal.returns-in-Seal-clause-fits
returns-in-Seal-clause-fits c = fits_at c.args.self.now c.self.view_is c.in-Seal.is tt

pub returns-in-Settle-clause-is : goal.returns-in-Settle-clause-is
returns-in-Settle-clause-is c = asks_in Deciding c.args.self.now c.self.view_is c.in-Settle.is refl c.file-step-in-Settle.ensures

pub returns-in-Settle-clause-fits : goal.returns-in-Settle-clause-fits
returns-in-Settle-clause-fits c = fits_at c.args.self.now c.self.view_is c.in-Settle.is tt

pub returns-in-Cancel-clause-is : goal.returns-in-Cancel-clause-is
returns-in-Cancel-clause-is c = asks_in Deciding c.args.self.now c.self.view_is c.in-Cancel.is refl c.file-step-in-Cancel.ensures

pub returns-in-Cancel-clause-fits : goal.returns-in-Cancel-clause-fits
returns-in-Cancel-clause-fits c = fits_at c.args.self.now c.self.view_is c.in-Cancel.is tt
