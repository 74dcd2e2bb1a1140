-- Goals of `Engine::serve` (src/serving.rt).
use Rattle.std.specs.Prelude.{Option}
use Rattle.std.proofs.Common.{sym, ap, subst, ◌∙◌}
use Rattle.mw_words.specs.declared.replies.Reply.{Reply}
use Rattle.mw_actor.specs.ActorState.{ActorState}
use Rattle.mw_core.specs.FromTable.{View}
use Rattle.mw_engine.specs.History.{IsAnswered, OutcomeAs}
use Rattle.mw_engine.specs.Replies.{IsOnItsWay}
use Rattle.mw_engine.proofs.Branded.{in_words, rested_of, still_of}
use Rattle.mw_engine.proofs.Histories.{begun_serves, served_stands}
use Rattle.mw_engine.proofs.RepliesOfJobs.{begins_way, first_way, reply_can}
use Rattle.mw_engine.proofs.RequestsMayCome.{made_may_come}
use Rattle.mw_engine.proofs.RequestAfterFileCall.{answered_so}
use Rattle.mw_engine.proofs.TurnsOfRequests.{just_came, one_more_turn}
use Rattle.mw_engine.proofs.engine.Engine.serve.Goals as goal

-- the engine's pass is one of its core
pub begin-requires-clause-own : goal.begin-requires-clause-own
begin-requires-clause-own g c =
    let engine = c.args.self.now in
    (in_words engine.words g.J.EngineBrand.identity engine.same c.args.pass.now c.requires.own).own

pub begin-requires-clause-may : goal.begin-requires-clause-may
begin-requires-clause-may g c =
    let engine = c.args.self.now in
    made_may_come engine.words g.J.EngineBrand.identity engine.same c.args.pass.now c.args.tenant c.args.job.now c.copy.result c.request-actor.result c.requires.own c.requires.idle c.requires.formed
    c.copy.ensures c.request-actor.ensures

pub loop-init : goal.loop-init
loop-init g c =
    let engine = c.args.self.now in
    let identity = g.J.EngineBrand.identity in
    let old = c.args.pass.now in
    let new = c.begin.new.pass in
    let actor = c.request-actor.result in
    let next = c.begin.new.actor in
    let is = c.request-actor.ensures in
    let begins = c.begin.ensures.begins in
    let may = made_may_come engine.words identity engine.same old c.args.tenant c.args.job.now c.copy.result actor c.requires.own c.requires.idle c.requires.formed c.copy.ensures is in
    let serves = begun_serves old new actor next may begins in
    record {
      own = still_of engine.words identity engine.same old new c.requires.own c.begin.ensures.own c.begin.ensures.worker begins.began.same_files;
      worker = c.begin.ensures.worker;
      its = ap (λ (one : ActorState). one.tenant) begins.told ∙ ap (λ (one : ActorState). one.tenant) is;
      same_job = ap (λ (one : ActorState). one.job) begins.told ∙ (ap (λ (one : ActorState). one.job) is ∙ c.copy.ensures);
      way = begins_way old new actor next begins serves (subst (λ (one : ActorState). IsOnItsWay one.job one.point) (sym is) (first_way c.args.tenant c.copy.result));
      carried = c.begin.ensures.carried;
      call = serves;
      turns = just_came g.D.Disk.facts identity old new c.args.tenant c.args.job.now c.copy.result actor next c.copy.ensures is begins;
    }

pub loop-preserved : goal.loop-preserved
loop-preserved g c =
    let inv = c.loop.invariant in
    let gone = c.go_on.ensures in
    record {
      own = gone.own;
      worker = gone.worker ∙ inv.worker;
      its = gone.request.same_tenant ∙ inv.its;
      same_job = gone.request.same_job ∙ inv.same_job;
      way = gone.way inv.way;
      carried = gone.carried;
      call = gone.call c.args.pass.now.seat.me.0 inv.call;
      turns = one_more_turn g.D.Disk.facts g.J.EngineBrand.identity c.args.pass.now c.args.tenant c.args.job.now c.loop.pass c.loop.actor c.go_on.new.pass c.go_on.new.actor inv.turns gone.turn;
    }

-- the pass as it came from the request's last step
pub rest-requires-clause-carried : goal.rest-requires-clause-carried
rest-requires-clause-carried g c = c.loop.invariant.carried

pub go_on-requires-clause-own : goal.go_on-requires-clause-own
go_on-requires-clause-own g c = c.loop.invariant.own

pub go_on-requires-clause-carried : goal.go_on-requires-clause-carried
go_on-requires-clause-carried g c = c.loop.invariant.carried

-- the pass is idle, and still the engine's
pub returns-in-Some-reply-clause-own : goal.returns-in-Some-reply-clause-own
returns-in-Some-reply-clause-own g c = rested_of g.J.EngineBrand.identity c.loop.pass c.rest.new.self c.loop.invariant.own c.rest.ensures.rested

pub returns-in-Some-reply-clause-worker : goal.returns-in-Some-reply-clause-worker
returns-in-Some-reply-clause-worker g c = c.rest.ensures.rested.same_worker ∙ c.loop.invariant.worker

pub returns-in-Some-reply-clause-idle : goal.returns-in-Some-reply-clause-idle
returns-in-Some-reply-clause-idle g c = c.rest.ensures.rested.idle

-- the job can have the reply to which its request came
pub returns-in-Some-reply-clause-answers : goal.returns-in-Some-reply-clause-answers
returns-in-Some-reply-clause-answers g c =
    reply_can c.loop.actor c.args.job.now c.in-Some-reply.reply c.loop.invariant.same_job c.loop.invariant.way (sym c.reply.ensures ∙ c.in-Some-reply.is)

pub returns-in-Some-reply-clause-answered : goal.returns-in-Some-reply-clause-answered
returns-in-Some-reply-clause-answered g c =
    let inv = c.loop.invariant in
    let first = c.args.pass.now.seat.me.0 in
    let pass = c.loop.pass in
    let actor = c.loop.actor in
    let reply = c.in-Some-reply.reply in
    let answered : IsAnswered first pass.seat.me.0 actor.tenant actor.job reply =
    subst (λ (one : Option Reply). OutcomeAs one first pass.seat.me.0 actor) (sym c.reply.ensures ∙ c.in-Some-reply.is) (served_stands first pass.seat.me.0 actor inv.call) in
    subst (λ (view : View). IsAnswered first view c.args.tenant c.args.job.now reply) (λ i. (sym c.rest.ensures.rested.same_seat i).me.0)
    (answered_so first pass.seat.me.0 actor c.args.tenant c.args.job.now reply inv.its inv.same_job answered)

pub returns-in-Some-reply-clause-calls : goal.returns-in-Some-reply-clause-calls
returns-in-Some-reply-clause-calls g c = record {
  last = c.loop.pass;
  actor = c.loop.actor;
  brought = c.loop.invariant.turns;
  has_reply = sym c.reply.ensures ∙ c.in-Some-reply.is;
  rests = c.rest.ensures.rested;
}
