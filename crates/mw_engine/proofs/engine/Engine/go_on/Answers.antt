-- Goals of `Engine::go_on` (src/serving.rt).
use Rattle.mw_engine.proofs.Branded.{still_of}
use Rattle.mw_engine.proofs.StepOrFileCall.{stepped_files, stepped_same, stepped_serves, stepped_way}
use Rattle.mw_engine.proofs.TurnsOfRequests.{stepped_turn}
use Rattle.mw_engine.proofs.engine.Engine.go_on.Goals as goal

pub returns-then-has_planted-clause-call : goal.returns-then-has_planted-clause-call
returns-then-has_planted-clause-call g c =
    let step = c.step in
    λ first served. stepped_serves c.args.pass.now step.new.pass c.args.actor.now step.new.actor step.result c.requires.running step.ensures.steps first served

pub returns-then-has_planted-clause-way : goal.returns-then-has_planted-clause-way
returns-then-has_planted-clause-way g c =
    let step = c.step in
    λ way. stepped_way c.args.pass.now step.new.pass c.args.actor.now step.new.actor step.result c.requires.running step.ensures.steps c.requires.carried way

pub returns-else-was_planting-clause-call : goal.returns-else-was_planting-clause-call
returns-else-was_planting-clause-call g c =
    let step = c.step in
    λ first served. stepped_serves c.args.pass.now step.new.pass c.args.actor.now step.new.actor step.result c.requires.running step.ensures.steps first served

pub returns-else-was_planting-clause-way : goal.returns-else-was_planting-clause-way
returns-else-was_planting-clause-way g c =
    let step = c.step in
    λ way. stepped_way c.args.pass.now step.new.pass c.args.actor.now step.new.actor step.result c.requires.running step.ensures.steps c.requires.carried way

pub returns-then-has_planted-clause-own : goal.returns-then-has_planted-clause-own
returns-then-has_planted-clause-own g c =
    let engine = c.args.self.now in
    let step = c.step in
    still_of engine.words g.J.EngineBrand.identity engine.same c.args.pass.now step.new.pass c.requires.own step.ensures.own step.ensures.worker
    (stepped_files c.args.pass.now step.new.pass c.args.actor.now step.new.actor step.result c.requires.running step.ensures.steps)

pub returns-then-has_planted-clause-request : goal.returns-then-has_planted-clause-request
returns-then-has_planted-clause-request g c =
    let step = c.step in
    stepped_same c.args.pass.now step.new.pass c.args.actor.now step.new.actor step.result c.requires.running step.ensures.steps

pub returns-else-was_planting-clause-own : goal.returns-else-was_planting-clause-own
returns-else-was_planting-clause-own g c =
    let engine = c.args.self.now in
    let step = c.step in
    still_of engine.words g.J.EngineBrand.identity engine.same c.args.pass.now step.new.pass c.requires.own step.ensures.own step.ensures.worker
    (stepped_files c.args.pass.now step.new.pass c.args.actor.now step.new.actor step.result c.requires.running step.ensures.steps)

pub returns-else-was_planting-clause-request : goal.returns-else-was_planting-clause-request
returns-else-was_planting-clause-request g c =
    let step = c.step in
    stepped_same c.args.pass.now step.new.pass c.args.actor.now step.new.actor step.result c.requires.running step.ensures.steps

pub returns-then-has_planted-clause-turn : goal.returns-then-has_planted-clause-turn
returns-then-has_planted-clause-turn g c =
    let step = c.step in
    stepped_turn g.D.Disk.facts g.J.EngineBrand.identity c.args.pass.now step.new.pass c.args.actor.now step.new.actor step.result step.ensures.steps

pub returns-else-was_planting-clause-turn : goal.returns-else-was_planting-clause-turn
returns-else-was_planting-clause-turn g c =
    let step = c.step in
    stepped_turn g.D.Disk.facts g.J.EngineBrand.identity c.args.pass.now step.new.pass c.args.actor.now step.new.actor step.result step.ensures.steps
