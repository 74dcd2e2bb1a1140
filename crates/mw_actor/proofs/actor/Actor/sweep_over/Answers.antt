-- Goals of `Actor::sweep_over` (src/actor/moves.rt).
use Rattle.std.proofs.Common.{refl, ap, ◌∙◌}
use Rattle.mw_actor.specs.RequestEnds.{finishes}
use Rattle.mw_actor.proofs.actor.Actor.sweep_over.Goals as goal

-- a sweep ends as its status tells
pub returns-in-Yes : goal.returns-in-Yes
returns-in-Yes c = rw c.in-Yes.is refl

pub returns-in-DoneYes : goal.returns-in-DoneYes
returns-in-DoneYes c = rw c.in-DoneYes.is c.finishes.ensures

pub returns-in-No : goal.returns-in-No
returns-in-No c = rw c.in-No.is refl

pub returns-in-DoneNo : goal.returns-in-DoneNo
returns-in-DoneNo c = rw c.in-DoneNo.is (c.finishes-in-DoneNo.ensures ∙ ap (finishes c.args.task) c.refusal.ensures)
