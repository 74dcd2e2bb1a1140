-- Goals of `write_at` (src/file.rt).
use Rattle.std.proofs.Common.{◌∙◌, is_ok, subst, sym}
use Rattle.mw_disk.specs.DeviceCalls.{WriteAt}
use Rattle.mw_disk.specs.FileCalls.{IsMadeFor, went_of}
use Rattle.mw_disk.proofs.Outcomes.{well_as}
use Rattle.mw_disk.proofs.file.FileDiskDisk.write_at.Goals as goal

-- the count of faults leaves the file as the call left it
pub returns-clause-made : goal.returns-clause-made
returns-clause-made g c =
    subst (λ file. IsMadeFor g.F.DiskFile.made (WriteAt c.args.at c.args.bytes.now) (is_ok c.ended.result) c.args.self.now.file file) (sym c.ended.ensures.file)
    (went_of c.write-written.result, well_as c.write-written.result ∙ sym c.ended.ensures.same, c.write-written.ensures.made)
