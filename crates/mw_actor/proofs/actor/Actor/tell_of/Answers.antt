-- Goals of `Actor::tell_of` (src/actor.rt).
use Rattle.std.proofs.Common.{ap, ◌∙◌}
use Rattle.mw_look.specs.Steps.{place_of}
use Rattle.mw_look.specs.Observations.{observation_of}
use Rattle.mw_look.proofs.PlaceLaws.{place_of_bits}
use Rattle.mw_actor.specs.ActorState.{ActorState}
use Rattle.mw_actor.specs.Asks.{asks}
use Rattle.mw_actor.proofs.RangeLaws.{told_so, told_in_range}
use Rattle.mw_actor.proofs.actor.Actor.tell_of.Goals as goal

pub invariant_of-self : goal.invariant_of-self
invariant_of-self c =
    let inside : ActorState = record { worker = c.self.inside.worker; tenant = c.self.inside.tenant; quota = c.self.inside.quota; pool = c.self.inside.pool; job = c.self.inside.job; others = c.self.inside.others.items; point = c.self.inside.point } in
    told_in_range c.args.self.now inside c.of-observation.result c.args.told.next c.read_others.new.others.items c.after-point.result c.self.view_is c.read_others.ensures c.after-point.ensures c.self.invariant c.of-observation.ensures.in_range

pub returns : goal.returns
returns c =
    let inside : ActorState = record { worker = c.self.inside.worker; tenant = c.self.inside.tenant; quota = c.self.inside.quota; pool = c.self.inside.pool; job = c.self.inside.job; others = c.self.inside.others.items; point = c.self.inside.point } in
    told_so c.args.self.now inside c.of-observation.result _ c.args.told.next c.read_others.new.others.items c.after-point.result c.self.view_is
    (c.of-observation.ensures.is ∙ ap (λ at. observation_of at c.args.told.got) (c.place.ensures ∙ (ap place_of c.requires ∙ place_of_bits (asks c.args.self.now)))) c.read_others.ensures c.after-point.ensures
