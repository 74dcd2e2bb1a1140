-- Goals of `Core::step` (src/calls.rt).
use Rattle.std.proofs.Common.{◌≡◌, false, ap, sym, ◌∙◌, subst}
use Rattle.mw_look.specs.Observations.{observation_of}
use Rattle.mw_look.specs.Steps.{op_of, place}
use Rattle.mw_actor.specs.ActorState.{ActorState}
use Rattle.mw_actor.specs.Asks.{asks}
use Rattle.mw_actor.specs.Program.{tells}
use Rattle.mw_table.proofs.CarriedRequests.{carried_on, drives_so, is_file}
use Rattle.mw_table.specs.CarriedRequest.{IsCarried}
use Rattle.mw_core.specs.Steps.{IsTold}
use Rattle.mw_core.proofs.StepEnds.{file_next, plain_so, step_made}
use Rattle.mw_core.proofs.calls.Core.step.Goals as goal

pub step-got-requires : goal.step-got-requires
step-got-requires c = record {
  own = c.requires.own;
  next = drives_so c.args.pass.now c.args.actor.now c.ask-op.result c.requires.carried c.requires.running (sym c.ask-op.ensures.is) (plain_so c.ask-op.result c.in_default.not-File);
}

pub returns-in-File-clause-steps : goal.returns-in-File-clause-steps
returns-in-File-clause-steps c = file_next c.args.pass.now c.args.actor.now c.in-File.call c.in-File.slot (sym c.ask-op.ensures.is ∙ c.in-File.is)

pub returns-clause-steps : goal.returns-clause-steps
returns-clause-steps c =
    let actor = c.args.actor.now in
    let old = c.args.pass.now in
    let new = c.step-got.new.pass in
    let got = c.step-got.result in
    let plain : is_file (op_of (asks actor)) ≡ false = ap is_file (sym c.ask-op.ensures.is) ∙ plain_so c.ask-op.result c.in_default.not-File in
    let told : IsTold new actor c.tell_of.new.self got = c.tell_of.ensures ∙ ap (tells actor (observation_of (place (asks actor)) got)) c.attempt.ensures in
    step_made old new actor c.tell_of.new.self got plain c.step-got.ensures.took c.step-got.ensures.event told

pub returns-clause-carried : goal.returns-clause-carried
returns-clause-carried c =
    let actor = c.args.actor.now in
    let new = c.step-got.new.pass in
    let got = c.step-got.result in
    let told : IsTold new actor c.tell_of.new.self got = c.tell_of.ensures ∙ ap (tells actor (observation_of (place (asks actor)) got)) c.attempt.ensures in
    subst (λ (one : ActorState). IsCarried new one) (sym told) (carried_on c.args.pass.now new actor got c.requires.carried c.requires.running c.step-got.ensures.worker c.step-got.ensures.took)
