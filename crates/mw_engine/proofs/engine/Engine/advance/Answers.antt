-- Goals of `Engine::advance` (src/steps.rt).
use Rattle.std.specs.Prelude.{is_some}
use Rattle.std.proofs.Common.{ap, sym, ◌∙◌}
use Rattle.mw_actor.specs.Program.{replied}
use Rattle.mw_engine.proofs.Branded.{rested_of}
use Rattle.mw_engine.proofs.RequestAfterStep.{at_call, same_request}
use Rattle.mw_engine.proofs.Histories.{served_stands}
use Rattle.mw_engine.proofs.RepliesOfJobs.{way_can}
use Rattle.mw_engine.proofs.IdlePasses.{rested_as, rested_stands, still_as}
use Rattle.mw_engine.proofs.engine.Engine.advance.Goals as goal

pub returns-then-is_some-clause-step : goal.returns-then-is_some-clause-step
returns-then-is_some-clause-step g c = record {
  made = c.make_step-ended.new.pass;
  ends = c.make_step-ended.ensures.ends;
  rests = rested_as (replied c.make_step-ended.new.actor) c.make_step-ended.new.pass c.rest.new.self (sym (c.is_some.ensures ∙ ap is_some c.reply.ensures) ∙ c.if-is_some.true) c.rest.ensures.rested;
}

pub returns-then-is_some-clause-call : goal.returns-then-is_some-clause-call
returns-then-is_some-clause-call g c =
    let made = c.make_step-ended.new.pass in
    let next = c.make_step-ended.new.actor in
    λ first since. rested_stands first made c.rest.new.self next c.rest.ensures.rested (served_stands first made.seat.me.0 next (c.make_step-ended.ensures.call first since))

pub returns-else-is_some-clause-step : goal.returns-else-is_some-clause-step
returns-else-is_some-clause-step g c = record {
  made = c.make_step-ended.new.pass;
  ends = c.make_step-ended.ensures.ends;
  rests = still_as (replied c.make_step-ended.new.actor) c.make_step-ended.new.pass (sym (c.is_some.ensures ∙ ap is_some c.reply.ensures) ∙ c.if-is_some.false);
}

pub returns-then-is_some-clause-own : goal.returns-then-is_some-clause-own
returns-then-is_some-clause-own g c = rested_of g.J.EngineBrand.identity c.make_step-ended.new.pass c.rest.new.self c.make_step-ended.ensures.own c.rest.ensures.rested

pub returns-then-is_some-clause-request : goal.returns-then-is_some-clause-request
returns-then-is_some-clause-request g c =
    let step = c.make_step-ended in
    same_request c.args.pass.now.idle c.args.pass.now step.new.pass c.args.actor.now step.new.actor step.result step.ensures.ends

pub returns-then-is_some-clause-file : goal.returns-then-is_some-clause-file
returns-then-is_some-clause-file g c =
    let step = c.make_step-ended in
    at_call c.args.pass.now.idle c.args.pass.now step.new.pass c.args.actor.now step.new.actor step.result step.ensures.ends

pub returns-else-is_some-clause-request : goal.returns-else-is_some-clause-request
returns-else-is_some-clause-request g c =
    let step = c.make_step-ended in
    same_request c.args.pass.now.idle c.args.pass.now step.new.pass c.args.actor.now step.new.actor step.result step.ensures.ends

pub returns-else-is_some-clause-file : goal.returns-else-is_some-clause-file
returns-else-is_some-clause-file g c =
    let step = c.make_step-ended in
    at_call c.args.pass.now.idle c.args.pass.now step.new.pass c.args.actor.now step.new.actor step.result step.ensures.ends

pub returns-then-is_some-clause-answers : goal.returns-then-is_some-clause-answers
returns-then-is_some-clause-answers g c = λ way. way_can c.make_step-ended.new.actor (c.make_step-ended.ensures.way way)

pub returns-else-is_some-clause-answers : goal.returns-else-is_some-clause-answers
returns-else-is_some-clause-answers g c = λ way. way_can c.make_step-ended.new.actor (c.make_step-ended.ensures.way way)
