-- Goals of `Engine::make_step` (src/steps.rt).
use Rattle.std.proofs.Common.{sym, ◌∙◌, subst}
use Rattle.mw_core.specs.FromTable.{View}
use Rattle.mw_engine.specs.History.{IsInProgress}
use Rattle.mw_engine.proofs.Histories.{advanced_serves, begun_serves, since_first, since_served}
use Rattle.mw_engine.proofs.Branded.{in_words, still_of}
use Rattle.mw_engine.proofs.PassAfterCall.{advanced_files}
use Rattle.mw_engine.proofs.RepliesOfJobs.{advanced_way, begins_way}
use Rattle.mw_engine.proofs.RequestsMayCome.{may_come}
use Rattle.mw_engine.proofs.engine.Engine.make_step.Goals as goal

pub begin-requires-clause-own : goal.begin-requires-clause-own
begin-requires-clause-own g c = (in_words c.args.self.now.words g.J.EngineBrand.identity c.args.self.now.same c.args.pass.now c.requires.own).own

pub advance-requires-clause-own : goal.advance-requires-clause-own
advance-requires-clause-own g c = (in_words c.args.self.now.words g.J.EngineBrand.identity c.args.self.now.same c.args.pass.now c.requires.own).own

pub begin-requires-clause-may : goal.begin-requires-clause-may
begin-requires-clause-may g c =
    let idle = sym c.idle.ensures.is ∙ c.if-idle.true in
    may_come c.args.self.now.words g.J.EngineBrand.identity c.args.self.now.same c.args.pass.now c.args.actor.now c.requires.own idle (c.requires.comes idle)

pub returns-then-idle-clause-call : goal.returns-then-idle-clause-call
returns-then-idle-clause-call g c =
    let old = c.args.pass.now in
    let new = c.begin.new.pass in
    let actor = c.args.actor.now in
    let next = c.begin.new.actor in
    let idle = sym c.idle.ensures.is ∙ c.if-idle.true in
    let may = may_come c.args.self.now.words g.J.EngineBrand.identity c.args.self.now.same old actor c.requires.own idle (c.requires.comes idle) in
    λ first since. subst (λ (view : View). IsInProgress view new.seat.me.0 next) (sym (since_first old.idle first old.seat.me.0 actor idle since))
    (begun_serves old new actor next may c.begin.ensures.begins)

pub returns-clause-call : goal.returns-clause-call
returns-clause-call g c =
    let old = c.args.pass.now in
    let actor = c.args.actor.now in
    let busy = sym c.idle.ensures.is ∙ c.if-idle.false in
    λ first since. advanced_serves first old c.advance.new.pass actor c.advance.new.actor c.advance.result (since_served old.idle first old.seat.me.0 actor busy since) c.advance.ensures.advances

pub returns-then-idle-clause-own : goal.returns-then-idle-clause-own
returns-then-idle-clause-own g c =
    still_of c.args.self.now.words g.J.EngineBrand.identity c.args.self.now.same c.args.pass.now c.begin.new.pass c.requires.own c.begin.ensures.own c.begin.ensures.worker c.begin.ensures.begins.began.same_files

pub returns-clause-own : goal.returns-clause-own
returns-clause-own g c =
    let old = c.args.pass.now in
    let new = c.advance.new.pass in
    still_of c.args.self.now.words g.J.EngineBrand.identity c.args.self.now.same old new c.requires.own c.advance.ensures.own c.advance.ensures.worker
    (advanced_files old new c.args.actor.now c.advance.new.actor c.advance.result c.advance.ensures.advances)

pub returns-then-idle-clause-way : goal.returns-then-idle-clause-way
returns-then-idle-clause-way g c =
    let old = c.args.pass.now in
    let actor = c.args.actor.now in
    let idle = sym c.idle.ensures.is ∙ c.if-idle.true in
    let may = may_come c.args.self.now.words g.J.EngineBrand.identity c.args.self.now.same old actor c.requires.own idle (c.requires.comes idle) in
    begins_way old c.begin.new.pass actor c.begin.new.actor c.begin.ensures.begins (begun_serves old c.begin.new.pass actor c.begin.new.actor may c.begin.ensures.begins)

pub returns-clause-way : goal.returns-clause-way
returns-clause-way g c =
    let busy = sym c.idle.ensures.is ∙ c.if-idle.false in
    advanced_way c.args.pass.now c.advance.new.pass c.args.actor.now c.advance.new.actor c.advance.result (c.requires.goes_on busy) c.advance.ensures.advances
