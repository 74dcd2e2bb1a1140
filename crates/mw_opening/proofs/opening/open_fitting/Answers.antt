-- Goals of `open_fitting` (src/opening.rt).
use Rattle.std.proofs.Common.{subst}
use Rattle.std.proofs.lemmas.Result.{err_from_is_err_and}
use Rattle.mw_opening.specs.SyncedOpenings.{DiskRefused}
use Rattle.mw_opening.proofs.DisksOpened.{of_line}
use Rattle.mw_opening.proofs.FilesRefused.{of_disk}
use Rattle.mw_opening.proofs.opening.open_fitting.Goals as goal

pub returns-in_err-disk-clause-refused : goal.returns-in_err-disk-clause-refused
returns-in_err-disk-clause-refused g c =
    let path = subst (λ path. g.P.OpensDisks.is_refused path c.in_err-disk.field-0.0) c.as_str.ensures.value c.in_err-disk.ensures.refused in
    let p = err_from_is_err_and c.from_residual.result c.from_residual.ensures.1 in
    rw (p.1, p.2) (λ other. DiskRefused c.in_err-disk.field-0.0 path other)

pub returns-clause-opened : goal.returns-clause-opened
returns-clause-opened g c =
    of_line g.P.Device.Disk.facts g.P.Device.Disk.made g.P.OpensDisks.is_over g.P.OpensDisks.is_refused c.args.line.now c.in_ok-disk.disk c.open_synced.result
    (subst (λ path. g.P.OpensDisks.is_over path c.in_ok-disk.disk) c.as_str.ensures.value c.in_ok-disk.ensures.over) c.open_synced.ensures.opened

pub returns-clause-refused : goal.returns-clause-refused
returns-clause-refused g c =
    of_disk g.P.Device.Disk.facts g.P.Device.Disk.made g.P.OpensDisks.is_over g.P.OpensDisks.is_refused c.args.line.now c.in_ok-disk.disk c.open_synced.result
    (subst (λ path. g.P.OpensDisks.is_over path c.in_ok-disk.disk) c.as_str.ensures.value c.in_ok-disk.ensures.over) c.open_synced.ensures.refused
