-- Goals of `sync` (src/file.rt).
use Rattle.std.proofs.Common.{subst}
use Rattle.mw_disk.specs.DeviceCalls.{Sync}
use Rattle.mw_disk.specs.FileCalls.{Went, went_of}
use Rattle.mw_disk.proofs.Repeated.{leads_on, leads_to}
use Rattle.mw_disk.proofs.file.sync.Goals as goal

pub returns-then-not-is_interrupted : goal.returns-then-not-is_interrupted
returns-then-not-is_interrupted g c = record {
  made = leads_to g.F.DiskFile.made Sync (went_of c.sync_once-synced.result) c.args.file.now c.loop.file c.sync_once-synced.new.self c.loop.invariant c.sync_once-synced.ensures.made;
}

pub loop-preserved : goal.loop-preserved
loop-preserved g c =
    leads_on g.F.DiskFile.made Sync c.args.file.now c.loop.file c.sync_once-synced.new.self c.loop.invariant
    (subst (λ (went : Went). g.F.DiskFile.made Sync went c.loop.file c.sync_once-synced.new.self) (c.is_interrupted.ensures c.if-not-is_interrupted.false) c.sync_once-synced.ensures.made)

pub returns : goal.returns
returns g c = record { made = leads_to g.F.DiskFile.made Sync (went_of c.sync_once.result) c.args.file.now c.loop.file c.sync_once.new.self c.loop.invariant c.sync_once.ensures.made }
