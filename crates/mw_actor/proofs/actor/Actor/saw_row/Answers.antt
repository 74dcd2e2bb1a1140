-- Goals of `Actor::saw_row` (src/actor/moves.rt).
use Rattle.std.proofs.Common.{ap}
use Rattle.mw_look.specs.declared.observations.Observation.TheVariants.{SawRow}
use Rattle.mw_actor.specs.declared.points.Point.TheVariants.{ConfirmAttempt, SweepConfirm}
use Rattle.mw_actor.proofs.PointLaws.{goes_at}
use Rattle.mw_actor.proofs.actor.Actor.saw_row.Goals as goal

-- the request goes from each of these points as its program says
pub returns-in-ReadOtherRow : goal.returns-in-ReadOtherRow
returns-in-ReadOtherRow c = λ next. goes_at c.args.self.now (SawRow c.args.row) next c.self.view_is c.in-ReadOtherRow.is (ap (ConfirmAttempt c.in-ReadOtherRow.task c.in-ReadOtherRow.entry c.in-ReadOtherRow.attempt) c.of_row.ensures)

pub returns-in-SweepRow : goal.returns-in-SweepRow
returns-in-SweepRow c = λ next. goes_at c.args.self.now (SawRow c.args.row) next c.self.view_is c.in-SweepRow.is (ap (SweepConfirm c.in-SweepRow.task c.in-SweepRow.sweep c.in-SweepRow.entry c.in-SweepRow.attempt) c.of_row-in-SweepRow.ensures)
