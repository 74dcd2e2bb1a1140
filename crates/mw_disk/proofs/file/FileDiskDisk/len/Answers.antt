-- Goals of `len` (src/file.rt).
use Rattle.std.proofs.Common.{◌∙◌, ap, false, is_ok, subst, sym}
use Rattle.mw_disk.specs.DeviceCalls.{Length}
use Rattle.mw_disk.specs.FileCalls.{IsMadeFor, went_of}
use Rattle.mw_disk.proofs.Outcomes.{well_as}
use Rattle.mw_disk.proofs.file.FileDiskDisk.len.Goals as goal

-- the count of faults leaves the file as the call left it
pub returns-in-Err-clause-made : goal.returns-in-Err-clause-made
returns-in-Err-clause-made g c =
    subst (λ file. IsMadeFor g.F.DiskFile.made Length false c.args.self.now.file file) (sym c.ended.ensures.file)
    (went_of c.ask-told.result, well_as c.ask-told.result ∙ (sym c.ended.ensures.same ∙ ap is_ok c.in-Err.is), c.ask-told.ensures.made)
