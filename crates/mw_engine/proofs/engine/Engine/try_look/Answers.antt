-- Goals of `Engine::try_look` (src/reads.rt).
use Rattle.std.proofs.Common.{refl, sym, subst}
use Rattle.mw_actor.specs.ActorState.{ActorState}
use Rattle.mw_core.specs.ReadRounds.{IsLook}
use Rattle.mw_core.specs.FromTable.{MayCome}
use Rattle.mw_engine.specs.History.{IsSince, ReadOutcome}
use Rattle.mw_engine.specs.Requests.{read_of}
use Rattle.mw_engine.proofs.Histories.{look_stands}
use Rattle.mw_engine.proofs.Branded.{in_words, still_of}
use Rattle.mw_engine.proofs.PassAfterCall.{looks_files}
use Rattle.mw_engine.proofs.RepliesOfJobs.{look_can}
use Rattle.mw_engine.proofs.RequestsMayCome.{may_come}
use Rattle.mw_engine.proofs.engine.Engine.try_look.Goals as goal

pub try_look-requires-clause-own : goal.try_look-requires-clause-own
try_look-requires-clause-own g c = (in_words c.args.self.now.words g.J.EngineBrand.identity c.args.self.now.same c.args.pass.now c.requires.own).own

pub try_look-requires-clause-look : goal.try_look-requires-clause-look
try_look-requires-clause-look g c = subst (λ (one : ActorState). IsLook one) (sym c.request-read.ensures) (record { address = c.args.address; job = refl; at_first = refl })

pub try_look-requires-clause-comes : goal.try_look-requires-clause-comes
try_look-requires-clause-comes g c =
    let engine = c.args.self.now in
    let identity = g.J.EngineBrand.identity in
    let pass = c.args.pass.now in
    λ idle. subst (λ (one : ActorState). MayCome pass.seat.me.0 pass.worker one) (sym c.request-read.ensures)
    (may_come engine.words identity engine.same pass (read_of identity pass c.args.tenant c.args.address) c.requires.own idle (record { formed = c.requires.formed; is = refl }))

pub returns-clause-call : goal.returns-clause-call
returns-clause-call g c =
    let old = c.args.pass.now in
    let new = c.try_look.new.pass in
    let result = c.try_look.result in
    λ first. subst (λ (one : ActorState). IsSince old.idle first old.seat.me.0 one → ReadOutcome result first new.seat.me.0 one) c.request-read.ensures
    (look_stands old new c.request-read.result c.try_look.new.actor result c.try_look.ensures.looks first)

pub returns-clause-own : goal.returns-clause-own
returns-clause-own g c =
    let old = c.args.pass.now in
    let new = c.try_look.new.pass in
    still_of c.args.self.now.words g.J.EngineBrand.identity c.args.self.now.same old new c.requires.own c.try_look.ensures.own c.try_look.ensures.worker
    (looks_files old new c.request-read.result c.try_look.new.actor c.try_look.result c.try_look.ensures.looks)

pub returns-clause-answers : goal.returns-clause-answers
returns-clause-answers g c = look_can c.args.pass.now c.try_look.new.pass c.request-read.result c.try_look.new.actor c.try_look.result c.args.address c.try_look.ensures.looks
