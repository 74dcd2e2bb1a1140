-- Proves the law `calls_keep_releasers`.
use Rattle.mw_law_runs.proofs.Obligations.FileCalls.{calls_keep_releasers}
use Rattle.mw_law_runs.proofs.laws.calls_keep_releasers.Goals as goal

pub returns : goal.returns
returns c = calls_keep_releasers
