-- Loop invariants of `open_files` (src/opening.rt).
use Rattle.std.proofs.Common.{take}
use Rattle.mw_config.specs.FittingFiles.{FitLines}
use Rattle.mw_opening.specs.SyncedOpenings.{AreOfLines}
use Rattle.mw_opening.proofs.opening.open_files.Given as goal

abbrev pub invariant-loop-line : goal.invariant-loop-line
invariant-loop-line g l = FitLines g.P.Device.Disk.facts (take l.line-index l.fn.lines) l.files.items × AreOfLines g.P.Device.Disk.facts g.P.Device.Disk.made g.P.OpensDisks.is_over g.P.OpensDisks.is_refused (take l.line-index l.fn.lines) l.files.items
