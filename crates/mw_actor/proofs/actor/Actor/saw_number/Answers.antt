-- Goals of `Actor::saw_number` (src/actor/moves.rt).
use Rattle.mw_look.specs.declared.observations.Observation.TheVariants.{SawNumber}
use Rattle.mw_actor.proofs.PointLaws.{goes_at}
use Rattle.mw_actor.proofs.actor.Actor.saw_number.Goals as goal

-- the request goes from each of these points as its program says
pub returns-in-ReadCount : goal.returns-in-ReadCount
returns-in-ReadCount c = λ next. goes_at c.args.self.now (SawNumber c.args.number) next c.self.view_is c.in-ReadCount.is c.count_read.ensures

pub returns-in-ReadAddr : goal.returns-in-ReadAddr
returns-in-ReadAddr c = λ next. goes_at c.args.self.now (SawNumber c.args.number) next c.self.view_is c.in-ReadAddr.is c.addr_read.ensures

pub returns-in-ReadExpected : goal.returns-in-ReadExpected
returns-in-ReadExpected c = λ next. goes_at c.args.self.now (SawNumber c.args.number) next c.self.view_is c.in-ReadExpected.is c.expected_read.ensures
