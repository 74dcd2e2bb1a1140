-- Proves the law `gates_are_moved_by_the_rules`.
use Rattle.mw_law_runs.proofs.Requests.BalanceLaws.{gates-are-moved-by-the-rules}
use Rattle.mw_law_runs.proofs.request_laws.gates_are_moved_by_the_rules.Goals as goal

pub returns : goal.returns
returns c = gates-are-moved-by-the-rules
