-- Proves the law `callers_status_stays`.
use Rattle.mw_law_runs.proofs.Statuses.{callers_status_stays}
use Rattle.mw_law_runs.proofs.laws.callers_status_stays.Goals as goal

pub returns : goal.returns
returns c = callers_status_stays
