-- Proves the law `runs_keep_counts`.
use Rattle.mw_law_runs.proofs.Counts.RunsKeepCounts.{run_keeps, run_leaves_room}
use Rattle.mw_law_runs.proofs.count_laws.runs_keep_counts.Goals as goal

pub returns : goal.returns
returns c = record { counts = run_keeps; room = run_leaves_room }
