-- Proves the law `requests_go_on_from_calls`.
use Rattle.mw_rule.proofs.Calls.WorldAfterCalls.{requests_go_on_from_calls}
use Rattle.mw_rule.proofs.call_laws.requests_go_on_from_calls.Goals as goal

pub returns : goal.returns
returns c = requests_go_on_from_calls
