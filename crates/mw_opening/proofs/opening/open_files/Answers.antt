-- Goals of `open_files` (src/opening.rt).
use Rattle.std.proofs.Common.{sym, subst, arith}
use Rattle.std.proofs.lemmas.List.{take_all}
use Rattle.mw_config.specs.FittingFiles.{FitLines}
use Rattle.mw_opening.specs.SyncedOpenings.{AreOfLines}
use Rattle.mw_opening.proofs.DisksOpened.{of_next}
use Rattle.mw_opening.proofs.FilesFitLines.{fit_next, so_many}
use Rattle.mw_opening.proofs.opening.open_files.Goals as goal

pub open_file-requires : goal.open_file-requires
open_file-requires g c =
    let many = so_many g.P.Device.Disk.facts c.args.lines.now c.loop-line.line-index c.loop-line.files.items c.loop-line-test.true c.loop-line.invariant.0 in
    omega (arith, many, c.len.ensures, c.requires, c.loop-line-test.true)

pub loop-line-preserved : goal.loop-line-preserved
loop-line-preserved g c = (
  fit_next g.P.Device.Disk.facts c.args.lines.now c.loop-line.line-index c.line-item.result c.loop-line.files.items c.push.new.self.items c.in_ok-file.file
      c.loop-line-test.true (sym c.line-item.is) c.in_ok-file.ensures.fits c.loop-line.invariant.0 c.in_ok-push.ensures.items,
  of_next g.P.Device.Disk.facts g.P.Device.Disk.made g.P.OpensDisks.is_over g.P.OpensDisks.is_refused c.args.lines.now c.loop-line.line-index c.line-item.result c.loop-line.files.items c.push.new.self.items c.in_ok-file.file
      c.loop-line-test.true (sym c.line-item.is) c.in_ok-file.ensures.opened c.loop-line.invariant.1 c.in_ok-push.ensures.items,
)

-- all lines were gone through
pub returns-clause-fit : goal.returns-clause-fit
returns-clause-fit g c =
    subst (λ lines. FitLines g.P.Device.Disk.facts lines c.loop-line.files.items) (take_all c.loop-line.line-index c.args.lines.now c.loop-line-test.false) c.loop-line.invariant.0

pub returns-clause-opened : goal.returns-clause-opened
returns-clause-opened g c =
    subst (λ lines. AreOfLines g.P.Device.Disk.facts g.P.Device.Disk.made g.P.OpensDisks.is_over g.P.OpensDisks.is_refused lines c.loop-line.files.items)
    (take_all c.loop-line.line-index c.args.lines.now c.loop-line-test.false) c.loop-line.invariant.1
