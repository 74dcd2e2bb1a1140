-- Proves the law `starts_count_right`.
use Rattle.mw_law_runs.proofs.Counts.RunsKeepCounts.{openings_stand}
use Rattle.mw_law_runs.proofs.count_laws.starts_count_right.Goals as goal

pub returns : goal.returns
returns c = openings_stand
