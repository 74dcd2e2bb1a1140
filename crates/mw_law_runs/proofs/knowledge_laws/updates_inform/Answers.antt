-- Proves the law `updates_inform`.
use Rattle.mw_law_runs.proofs.Knowledge.Updates.ByPoint.{updates_inform}
use Rattle.mw_law_runs.proofs.knowledge_laws.updates_inform.Goals as goal

pub returns : goal.returns
returns c = updates_inform
