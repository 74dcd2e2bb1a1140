-- Goals of `Engine::file` (src/file_lock/one_call.rt).
use Rattle.std.specs.Prelude.{◌≢◌, None}
use Rattle.std.proofs.Common.{sym, subst}
use Rattle.mw_actor.specs.ActorState.{ActorState}
use Rattle.mw_world.specs.Definition.Calls.{called_at}
use Rattle.mw_core.specs.FromTable.{IsCarried, IsSamePass, Pass}
use Rattle.mw_engine.specs.FileCalls.{FilesOne}
use Rattle.mw_engine.specs.TenantWords.{HasPass}
use Rattle.mw_engine.proofs.Branded.{in_words, of_engine, with_own_lines}
use Rattle.mw_engine.proofs.RepliesOfJobs.{file_way}
use Rattle.mw_engine.proofs.RequestAfterFileCall.{file_same, file_serves}
use Rattle.mw_engine.proofs.engine.Engine.file.Goals as goal

-- the core is the engine's
pub file-requires-clause-engine : goal.file-requires-clause-engine
file-requires-clause-engine g c = with_own_lines c.args.self.now.words g.J.EngineBrand.identity c.args.self.now.same

pub file-requires-clause-own : goal.file-requires-clause-own
file-requires-clause-own g c =
    let engine = c.args.self.now in
    subst (λ (pass : Pass). HasPass engine.words pass) (sym c.loop.invariant.pass_is) (in_words engine.words g.J.EngineBrand.identity engine.same c.args.pass.now c.requires.own)

pub file-requires-clause-carried : goal.file-requires-clause-carried
file-requires-clause-carried g c =
    subst (λ (pass : Pass). IsCarried pass c.loop.actor) (sym c.loop.invariant.pass_is)
    (subst (λ (actor : ActorState). IsCarried c.args.pass.now actor) (sym c.loop.invariant.actor_is) c.requires.carried)

pub file-requires-clause-call : goal.file-requires-clause-call
file-requires-clause-call g c = subst (λ (actor : ActorState). called_at actor.point ≢ None) (sym c.loop.invariant.actor_is) c.requires.call

pub returns-then-is_of-clause-files : goal.returns-then-is_of-clause-files
returns-then-is_of-clause-files g c =
    subst (λ (pass : Pass). FilesOne g.D.Disk.facts g.J.EngineBrand.identity pass c.file.new.pass c.args.actor.now c.file.new.actor) c.loop.invariant.pass_is
    (subst (λ (actor : ActorState). FilesOne g.D.Disk.facts g.J.EngineBrand.identity c.loop.pass c.file.new.pass actor c.file.new.actor) c.loop.invariant.actor_is c.file.ensures.files)

pub returns-then-is_of-clause-request : goal.returns-then-is_of-clause-request
returns-then-is_of-clause-request g c = file_same g.D.Disk.facts g.J.EngineBrand.identity c.args.pass.now c.file.new.pass c.args.actor.now c.file.new.actor (returns-then-is_of-clause-files g c)

pub returns-then-is_of-clause-way : goal.returns-then-is_of-clause-way
returns-then-is_of-clause-way g c = file_way g.D.Disk.facts g.J.EngineBrand.identity c.args.pass.now c.file.new.pass c.args.actor.now c.file.new.actor (returns-then-is_of-clause-files g c)

pub returns-then-is_of-clause-call : goal.returns-then-is_of-clause-call
returns-then-is_of-clause-call g c = file_serves g.D.Disk.facts g.J.EngineBrand.identity c.args.pass.now c.file.new.pass c.args.actor.now c.file.new.actor (returns-then-is_of-clause-files g c)

pub returns-then-is_of-clause-same : goal.returns-then-is_of-clause-same
returns-then-is_of-clause-same g c = subst (λ (pass : Pass). IsSamePass pass c.file.new.pass) c.loop.invariant.pass_is c.file.ensures.same

-- a pass of the core's table is the engine's
pub returns-then-is_of-clause-own : goal.returns-then-is_of-clause-own
returns-then-is_of-clause-own g c =
    let engine = c.args.self.now in
    of_engine engine.words g.J.EngineBrand.identity engine.same c.file.new.pass c.file.ensures.own

pub returns-then-is_of-clause-carried : goal.returns-then-is_of-clause-carried
returns-then-is_of-clause-carried g c = c.file.ensures.carried
