-- Goals of `Core::make_next` (src/read_rounds.rt).
use Rattle.std.proofs.Common.{◌≡◌, false, ap, sym, ◌∙◌, subst}
use Rattle.mw_words.specs.declared.places.At.{At}
use Rattle.mw_look.specs.Observations.{observation_of}
use Rattle.mw_look.specs.Steps.{op_of, place, place_of}
use Rattle.mw_look.proofs.PlaceLaws.{place_of_bits}
use Rattle.mw_actor.specs.declared.points.Point.{Point}
use Rattle.mw_actor.specs.ActorState.{ActorState}
use Rattle.mw_actor.specs.Asks.{asks, asks_at}
use Rattle.mw_actor.specs.Program.{tells}
use Rattle.mw_table.proofs.CarriedRequests.{carried_on, drives_so, is_file}
use Rattle.mw_table.specs.CarriedRequest.{IsCarried}
use Rattle.mw_core.specs.Steps.{IsTold}
use Rattle.mw_core.specs.Reasons.{turns}
use Rattle.mw_core.proofs.StepEnds.{read_calls_none}
use Rattle.mw_core.proofs.ReadRoundLaws.{next_made}
use Rattle.mw_core.proofs.calls.Core.make_next.Goals as goal

pub step-got-requires-clause-next : goal.step-got-requires-clause-next
step-got-requires-clause-next c =
    let actor = c.args.actor.now in
    let read = c.requires.look.0 in
    let plain : is_file c.ask-op.result ≡ false =
    ap is_file c.ask-op.ensures.is ∙ (ap (λ (point : Point). is_file (op_of (asks_at actor point))) c.requires.look.1 ∙ read_calls_none read.tenant read.address read.point) in
    drives_so c.args.pass.now actor c.ask-op.result c.requires.carried c.requires.running (sym c.ask-op.ensures.is) plain

pub returns-clause-made : goal.returns-clause-made
returns-clause-made c =
    let actor = c.args.actor.now in
    let got = c.step-got.result in
    let told : IsTold c.step-got.new.pass actor c.tell_of.new.self got = c.tell_of.ensures ∙ ap (tells actor (observation_of (place (asks actor)) got)) c.attempt.ensures in
    λ read at.
    let point_is : c.look_point-point.result ≡ read.point = c.look_point-point.ensures read at in
    let place_is : c.place.result ≡ place (asks actor) = c.place.ensures ∙ (ap place_of c.ask-op.ensures.is ∙ place_of_bits (asks actor)) in
    let observation_is : c.of.result ≡ observation_of (place (asks actor)) got = c.of.ensures.is ∙ ap (λ (place : At). observation_of place got) place_is in
    next_made c.args.pass.now c.step-got.new.pass actor c.tell_of.new.self read got c.turns.result at c.requires.carried c.requires.running c.step-got.ensures.took c.step-got.ensures.event told
    (c.turns.ensures ∙ (λ i. turns (point_is i) (observation_is i)))

pub returns-clause-carried : goal.returns-clause-carried
returns-clause-carried c =
    let actor = c.args.actor.now in
    let new = c.step-got.new.pass in
    let got = c.step-got.result in
    let told : IsTold new actor c.tell_of.new.self got = c.tell_of.ensures ∙ ap (tells actor (observation_of (place (asks actor)) got)) c.attempt.ensures in
    subst (λ (one : ActorState). IsCarried new one) (sym told) (carried_on c.args.pass.now new actor got c.requires.carried c.requires.running c.step-got.ensures.worker c.step-got.ensures.took)
