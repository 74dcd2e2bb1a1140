-- Proves the law `runs_extend`.
use Rattle.mw_lone.proofs.KeptRuns.{run-extend, replies-extend}
use Rattle.mw_lone.proofs.laws.runs_extend.Goals as goal

pub returns : goal.returns
returns c = record { store = run-extend; replies = replies-extend }
