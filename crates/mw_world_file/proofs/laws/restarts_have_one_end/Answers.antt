-- Proves the law `restarts_have_one_end`.
use Rattle.mw_world_file.proofs.OneEnd.{same_end, never_refused}
use Rattle.mw_world_file.proofs.laws.restarts_have_one_end.Goals as goal

pub returns-clause-same : goal.returns-clause-same
returns-clause-same c = same_end

pub returns-clause-enabled : goal.returns-clause-enabled
returns-clause-enabled c = never_refused
