-- Goals of `all_opened` (src/starts.rt).
use Rattle.std.proofs.Common.{◌+◌, take, subst, sym}
use Rattle.mw_engine.specs.OpenedFiles.{FitLines}
use Rattle.mw_engine_tests.proofs.FilesFitLines.{fit_next}
use Rattle.mw_engine_tests.proofs.starts.all_opened.Goals as goal

-- src/starts.rt
pub loop-line-preserved : goal.loop-line-preserved
loop-line-preserved g c =
    let facts = g.D.Disk.facts in
    let lines = c.args.lines.now in
    let index = c.loop-line.line-index in
    let more = fit_next facts lines index c.line-item.result c.loop-line.files.items c.opened-file.result c.loop-line-test.true (sym c.line-item.is) c.opened-file.ensures c.loop-line.invariant in
    subst (λ files. FitLines facts (take (index + 1) lines) files) (sym c.in-Ok.ensures.items) more
