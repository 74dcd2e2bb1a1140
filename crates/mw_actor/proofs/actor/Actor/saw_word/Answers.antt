-- Goals of `Actor::saw_word` (src/actor/moves.rt).
use Rattle.mw_look.specs.declared.observations.Observation.TheVariants.{SawWord}
use Rattle.mw_actor.proofs.PointLaws.{goes_at}
use Rattle.mw_actor.proofs.actor.Actor.saw_word.Goals as goal

-- the request goes from each of these points as its program says
pub returns-in-Inspect : goal.returns-in-Inspect
returns-in-Inspect c = goes_at c.args.self.now (SawWord c.args.word) c.args.next c.self.view_is c.in-Inspect.is c.inspected.ensures

pub returns-in-ConfirmAttempt : goal.returns-in-ConfirmAttempt
returns-in-ConfirmAttempt c = goes_at c.args.self.now (SawWord c.args.word) c.args.next c.self.view_is c.in-ConfirmAttempt.is c.attempt_confirmed.ensures

pub returns-in-ConfirmDirty : goal.returns-in-ConfirmDirty
returns-in-ConfirmDirty c = goes_at c.args.self.now (SawWord c.args.word) c.args.next c.self.view_is c.in-ConfirmDirty.is c.dirty_confirmed.ensures

pub returns-in-SweepWord : goal.returns-in-SweepWord
returns-in-SweepWord c = goes_at c.args.self.now (SawWord c.args.word) c.args.next c.self.view_is c.in-SweepWord.is c.swept.ensures

pub returns-in-SweepConfirm : goal.returns-in-SweepConfirm
returns-in-SweepConfirm c = goes_at c.args.self.now (SawWord c.args.word) c.args.next c.self.view_is c.in-SweepConfirm.is c.sweep_confirmed.ensures
