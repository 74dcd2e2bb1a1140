-- Proves the law `lines_are_run`.
use Rattle.mw_law_store.proofs.Late.Lines.{lines-run, lines-extend, empty-place}
use Rattle.mw_law_store.proofs.late_laws.lines_are_run.Goals as goal

pub returns : goal.returns
returns c = record { same = lines-run; extend = lines-extend; empty = empty-place }
