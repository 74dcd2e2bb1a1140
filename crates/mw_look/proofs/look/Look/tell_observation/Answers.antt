-- Goals of `Look::tell_observation` (src/look.rt).
use Rattle.std.proofs.Common.{ap}
use Rattle.mw_look.proofs.RangeLaws.{next_in_range}
use Rattle.mw_look.proofs.look.Look.tell_observation.Goals as goal

pub invariant_of-self : goal.invariant_of-self
invariant_of-self c =
    next_in_range c.args.self.now c.self.inside.point c.next-self-inside.result c.args.observation (ap (λ r. r.point) c.self.view_is) c.next-self-inside.ensures.is c.self.invariant c.requires
