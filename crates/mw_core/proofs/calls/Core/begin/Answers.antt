-- Goals of `Core::begin` (src/calls.rt).
use Rattle.std.proofs.Common.{ap, sym, ◌∙◌, subst}
use Rattle.mw_look.specs.declared.observations.Got.TheVariants.{Word as Found}
use Rattle.mw_look.specs.Observations.{observation_of}
use Rattle.mw_look.specs.Steps.{place}
use Rattle.mw_actor.specs.ActorState.{ActorState}
use Rattle.mw_actor.specs.Asks.{asks}
use Rattle.mw_actor.specs.Program.{tells}
use Rattle.mw_table.specs.CarriedRequest.{IsCarried}
use Rattle.mw_core.specs.Steps.{IsTold}
use Rattle.mw_core.proofs.StepEnds.{carried_first}
use Rattle.mw_core.proofs.calls.Core.begin.Goals as goal

pub returns-clause-carried : goal.returns-clause-carried
returns-clause-carried c =
    let actor = c.args.actor.now in
    let new = c.begin-found.new.pass in
    let got = Found c.begin-found.result in
    let told : IsTold new actor c.tell.new.self got = c.tell.ensures ∙ ap (tells actor (observation_of (place (asks actor)) got)) c.attempt.ensures in
    subst (λ (one : ActorState). IsCarried new one) (sym told) (carried_first c.args.pass.now new actor got c.requires.may c.begin-found.ensures.worker c.begin-found.ensures.began)
