-- Goals of `Engine::go_oneself` (src/combiner.rt).
use Rattle.mw_engine.proofs.RequestsGoOn.{called, stays}
use Rattle.mw_engine.proofs.engine.Engine.go_oneself.Goals as goal

-- no call is due: the request comes back as it was
pub returns-then-is_none : goal.returns-then-is_none
returns-then-is_none g c = stays g.D.Disk.facts g.J.EngineBrand.identity c.args.errand.pass c.args.errand.actor c.requires.here

pub file-requires-clause-own : goal.file-requires-clause-own
file-requires-clause-own g c = c.requires.here.own

pub file-requires-clause-carried : goal.file-requires-clause-carried
file-requires-clause-carried g c = c.requires.here.carried

-- the call was made
pub returns : goal.returns
returns g c =
    let made = c.file.ensures in
    called g.D.Disk.facts g.J.EngineBrand.identity c.args.errand.pass c.file.new.pass c.args.errand.actor c.file.new.actor made.own made.carried made.same made.files
