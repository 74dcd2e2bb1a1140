-- Proves the law `calls_inform`.
use Rattle.mw_law_runs.proofs.Knowledge.Calls.AfterCalls.{calls_inform}
use Rattle.mw_law_runs.proofs.Knowledge.Calls.CallGuards.{calls_have_guards}
use Rattle.mw_law_runs.proofs.knowledge_laws.calls_inform.Goals as goal

pub returns-clause-guards : goal.returns-clause-guards
returns-clause-guards c = calls_have_guards

pub returns-clause-informs : goal.returns-clause-informs
returns-clause-informs c = calls_inform
