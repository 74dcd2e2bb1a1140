-- Proves the law `facts_stay`.
use Rattle.mw_law_runs.proofs.knowledge_laws.facts_stay.Goals as goal
use Rattle.mw_law_runs.proofs.Knowledge.Stability.{facts_stay}

pub returns : goal.returns
returns c = facts_stay
