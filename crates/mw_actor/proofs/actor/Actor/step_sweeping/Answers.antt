-- Goals of `Actor::step_sweeping` (src/actor/asks.rt).
use Rattle.std.proofs.Common.{refl}
use Rattle.mw_actor.specs.Parts.{Sweeping}
use Rattle.mw_actor.proofs.PointLaws.{asks_in, fits_at}
use Rattle.mw_actor.proofs.actor.Actor.step_sweeping.Goals as goal

-- a load and a call on the file have no values
pub returns-in-SweepRow-clause-is : goal.returns-in-SweepRow-clause-is
returns-in-SweepRow-clause-is c = asks_in Sweeping c.args.self.now c.self.view_is c.in-SweepRow.is refl refl

pub returns-in-SweepRow-clause-fits : goal.returns-in-SweepRow-clause-fits
returns-in-SweepRow-clause-fits c = fits_at c.args.self.now c.self.view_is c.in-SweepRow.is tt
