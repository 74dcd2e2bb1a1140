-- Goals of `Actor::after` (src/actor.rt).
use Rattle.std.proofs.Common.{ap, ◌∙◌}
use Rattle.mw_actor.proofs.RangeLaws.{goes_as_change}
use Rattle.mw_actor.proofs.actor.Actor.after.Goals as goal

pub returns-in_default : goal.returns-in_default
returns-in_default c = c.next.ensures ∙ goes_as_change c.args.self.now c.args.next c.args.self.now.point c.args.observation (λ look is. c.in_default.not-Read look (ap (λ a. a.point) c.self.view_is ∙ is))
