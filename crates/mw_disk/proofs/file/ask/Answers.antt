-- Goals of `ask` (src/file.rt).
use Rattle.std.proofs.Common.{subst}
use Rattle.mw_disk.specs.DeviceCalls.{Length}
use Rattle.mw_disk.specs.FileCalls.{Went, went_of}
use Rattle.mw_disk.proofs.Repeated.{leads_on, leads_to}
use Rattle.mw_disk.proofs.file.ask.Goals as goal

pub returns-then-not-is_interrupted : goal.returns-then-not-is_interrupted
returns-then-not-is_interrupted g c = record {
  made = leads_to g.F.DiskFile.made Length (went_of c.told-told.result) c.args.file.now c.loop.file c.told-told.new.self c.loop.invariant c.told-told.ensures.made;
}

pub loop-preserved : goal.loop-preserved
loop-preserved g c =
    leads_on g.F.DiskFile.made Length c.args.file.now c.loop.file c.told-told.new.self c.loop.invariant
    (subst (λ (went : Went). g.F.DiskFile.made Length went c.loop.file c.told-told.new.self) (c.is_interrupted.ensures c.if-not-is_interrupted.false) c.told-told.ensures.made)

pub returns : goal.returns
returns g c = record { made = leads_to g.F.DiskFile.made Length (went_of c.told.result) c.args.file.now c.loop.file c.told.new.self c.loop.invariant c.told.ensures.made }
