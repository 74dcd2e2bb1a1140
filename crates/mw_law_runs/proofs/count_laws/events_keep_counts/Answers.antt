-- Proves the law `events_keep_counts`.
use Rattle.mw_law_runs.proofs.Counts.RunsKeepCounts.{step_keeps}
use Rattle.mw_law_runs.proofs.count_laws.events_keep_counts.Goals as goal

pub returns : goal.returns
returns c = step_keeps
