-- Goals of `read_at` (src/file.rt).
use Rattle.std.proofs.Common.{◌∙◌, is_ok, length, subst, sym}
use Rattle.mw_disk.specs.DeviceCalls.{ReadAt}
use Rattle.mw_disk.specs.FileCalls.{IsMadeFor, went_of}
use Rattle.mw_disk.proofs.Outcomes.{well_as}
use Rattle.mw_disk.proofs.file.FileDiskDisk.read_at.Goals as goal

-- the count of faults leaves the file as the call left it
pub returns-clause-made : goal.returns-clause-made
returns-clause-made g c =
    subst (λ file. IsMadeFor g.F.DiskFile.made (ReadAt c.args.at (length c.args.out.now)) (is_ok c.ended.result) c.args.self.now.file file) (sym c.ended.ensures.file)
    (went_of c.read-read.result, well_as c.read-read.result ∙ sym c.ended.ensures.same, c.read-read.ensures.made)
