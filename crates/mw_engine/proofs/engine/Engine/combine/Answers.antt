-- Goals of `Engine::combine` (src/file_lock/one_call.rt).
use Rattle.mw_engine.proofs.RequestsGoOn.{called}
use Rattle.mw_engine.proofs.engine.Engine.combine.Goals as goal

-- no lock has the tenant's number: the call was made alone
pub returns-in_default : goal.returns-in_default
returns-in_default g c =
    let made = c.file.ensures in
    called g.D.Disk.facts g.J.EngineBrand.identity c.args.pass.now c.file.new.pass c.args.actor.now c.file.new.actor made.own made.carried made.same made.files

-- the call was made at once, under the file's lock
pub returns-in-Some-lock_for : goal.returns-in-Some-lock_for
returns-in-Some-lock_for g c = c.make_own.ensures

-- no box is the worker's: the call was made alone
pub returns-in_default-get : goal.returns-in_default-get
returns-in_default-get g c =
    let made = c.file-in_default-get.ensures in
    called g.D.Disk.facts g.J.EngineBrand.identity c.args.pass.now c.file-in_default-get.new.pass c.args.actor.now c.file-in_default-get.new.actor made.own made.carried made.same made.files
