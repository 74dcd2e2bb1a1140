-- Goals of `World::run` (src/world/events.rt).
use Rattle.std.proofs.Common.{refl, subst, ◌∙◌, take}
use Rattle.std.proofs.lemmas.List.{take_all}
use Rattle.mw_simulator.specs.Events.{AllStep, GoesOn}
use Rattle.mw_simulator.proofs.OneMoreEvent.{goes_nowhere, goes_on_more, one_event_more, one_step_more, event_read, stops_at}
use Rattle.mw_simulator.proofs.InvariantLaws.{holds}
use Rattle.mw_simulator.proofs.ServiceAloneLaws.{serves}
use Rattle.mw_simulator.proofs.world.World.run.Goals as goal

pub loop-index-init : goal.loop-index-init
loop-index-init c = record { same = refl; steps = refl; goes = λ happened stands. goes_nowhere c.args.self.now happened stands }

pub loop-index-preserved : goal.loop-index-preserved
loop-index-preserved c =
    let event = c.index-events-index.result in
    let events = c.args.events.now in
    let index = c.loop-index.index in
    let old = c.loop-index.self in
    let new = c.apply.new.self in
    let now = c.in_default.ensures in
    record {
      same = now.config ∙ c.loop-index.invariant.same;
      steps = one_step_more c.args.self.now old new events index event c.loop-index-test.true c.index-events-index.is c.loop-index.invariant.steps
          (record { config = now.config; happens = now.happens; files = now.files; moments = now.moments; disks = now.disks });
      goes = λ happened stands.
          one_event_more new happened events index event c.loop-index-test.true c.index-events-index.is
          (goes_on_more old new happened (take index events) event c.in_default.field-0 now.config now.happens (c.loop-index.invariant.goes happened stands));
    }

pub returns-in-Err-clause-config : goal.returns-in-Err-clause-config
returns-in-Err-clause-config c = c.in-Err.ensures.config ∙ c.loop-index.invariant.same

pub returns-in-Err-clause-runs : goal.returns-in-Err-clause-runs
returns-in-Err-clause-runs c happened stands =
    let event = c.index-events-index.result in
    let events = c.args.events.now in
    let index = c.loop-index.index in
    let here = event_read events index event c.loop-index-test.true c.index-events-index.is in
    stops_at c.loop-index.self c.apply.new.self happened events index event c.in-Err.fault c.in-Err.ensures.config here c.loop-index-test.true
    c.in-Err.ensures.happens (c.loop-index.invariant.goes happened stands)

pub returns-in-Err-clause-steps : goal.returns-in-Err-clause-steps
returns-in-Err-clause-steps c =
    let event = c.index-events-index.result in
    record {
      last = c.loop-index.self;
      steps = c.loop-index.invariant.steps;
      event = event;
      there = event_read c.args.events.now c.loop-index.index event c.loop-index-test.true c.index-events-index.is;
      refused = c.in-Err.ensures.happens;
      unchanged = c.in-Err.ensures.unchanged;
    }

pub returns-clause-steps : goal.returns-clause-steps
returns-clause-steps c =
    let events = c.args.events.now in
    subst (λ all. AllStep c.args.self.now all c.loop-index.self) (take_all c.loop-index.index events c.loop-index-test.false) c.loop-index.invariant.steps

pub returns-clause-runs : goal.returns-clause-runs
returns-clause-runs c happened stands =
    let events = c.args.events.now in
    subst (λ all. GoesOn c.loop-index.self happened all) (take_all c.loop-index.index events c.loop-index-test.false) (c.loop-index.invariant.goes happened stands)

pub returns-clause-holds : goal.returns-clause-holds
returns-clause-holds c = holds _

pub returns-in-Err-clause-holds : goal.returns-in-Err-clause-holds
returns-in-Err-clause-holds c = holds _

pub returns-clause-serves : goal.returns-clause-serves
returns-clause-serves c = serves _

pub returns-in-Err-clause-serves : goal.returns-in-Err-clause-serves
returns-in-Err-clause-serves c = serves _
