-- Goals of `read_stops` (src/restarts.rt).
use Rattle.std.proofs.Common.{◌≡◌, ◌<◌, ◌==◌, ◌∙◌, ◌++◌, ◌∷◌, [], true, if◌then◌else◌, is_ok, List, ap, subst, sym, rules, arith}
use Rattle.std.specs.List.{list_any}
use Rattle.mw_world.specs.declared.events.Stop.{Stop}
use Rattle.mw_world.specs.Definition.State.{tenants_of}
use Rattle.mw_schedule.specs.Playable.{AreStops, IsOfWorker}
use Rattle.mw_schedule.proofs.Stops.{stops_more}
use Rattle.std.proofs.lemmas.Grind.{common_steps}
use Rattle.mw_schedule.proofs.restarts.read_stops.Goals as goal

pub loop-rest-preserved : goal.loop-rest-preserved
loop-rest-preserved c =
    let tenants = tenants_of c.args.config.now in
    let stops = c.loop-rest.stops.items in
    let stop = c.in-Some.stop in
    let there : stop.tenant < tenants = search rules in
    let worker : IsOfWorker stop.interrupted = search rules in
    let same : c.deref.result.now ≡ stops = search rules in
    let new = sym (ap (λ (those : List Stop). list_any (λ other. other.tenant == stop.tenant) those) same) ∙ sym c.is_named.ensures ∙ c.if-is_named.false in
    let ok : is_ok c.push.result ≡ true = search rules in
    let grown = c.push.ensures.items ∙ ap (λ b. if b then stops ++ stop ∷ [] else stops) ok in
    subst (λ (those : List Stop). AreStops tenants those) (sym grown) (stops_more tenants stops stop c.loop-rest.invariant there worker new)

pub loop-rest-smaller : goal.loop-rest-smaller
loop-rest-smaller c = grind (arith, common_steps)
