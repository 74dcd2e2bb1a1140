-- Goals of `Engine::make` (src/file_lock/one_call.rt).
use Rattle.mw_engine.proofs.Branded.{of_engine}
use Rattle.mw_engine.proofs.RequestsGoOn.{called}
use Rattle.mw_engine.proofs.engine.Engine.make.Goals as goal

pub returns-then-is_of : goal.returns-then-is_of
returns-then-is_of g c =
    let engine = c.args.self.now in
    called g.D.Disk.facts g.J.EngineBrand.identity c.args.pass.now c.file.new.pass c.args.actor.now c.file.new.actor
    (of_engine engine.words g.J.EngineBrand.identity engine.same c.file.new.pass c.file.ensures.own) c.file.ensures.carried c.file.ensures.same c.file.ensures.files
