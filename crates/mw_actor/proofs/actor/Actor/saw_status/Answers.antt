-- Goals of `Actor::saw_status` (src/actor/moves.rt).
use Rattle.std.proofs.Common.{ap}
use Rattle.mw_look.specs.declared.observations.Observation.TheVariants.{SawStatus}
use Rattle.mw_actor.specs.declared.points.Point.TheVariants.{Resolve, Replied}
use Rattle.mw_actor.proofs.PointLaws.{goes_at}
use Rattle.mw_actor.proofs.actor.Actor.saw_status.Goals as goal

-- an attempt is resolved by what the target's status tells
pub returns-in-CheckThenResolve : goal.returns-in-CheckThenResolve
returns-in-CheckThenResolve c = λ next. goes_at c.args.self.now (SawStatus c.args.status) next c.self.view_is c.in-CheckThenResolve.is
    (ap (Resolve c.in-CheckThenResolve.task c.in-CheckThenResolve.entry c.in-CheckThenResolve.attempt) c.is_open.ensures)

pub returns-in-ReadTargetStatus : goal.returns-in-ReadTargetStatus
returns-in-ReadTargetStatus c = λ next. goes_at c.args.self.now (SawStatus c.args.status) next c.self.view_is c.in-ReadTargetStatus.is c.status_read.ensures

pub returns-in-GiveUp : goal.returns-in-GiveUp
returns-in-GiveUp c = λ next. goes_at c.args.self.now (SawStatus c.args.status) next c.self.view_is c.in-GiveUp.is (ap Replied c.gave_up.ensures)
