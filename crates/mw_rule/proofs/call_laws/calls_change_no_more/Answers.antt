-- Proves the law `calls_change_no_more`.
use Rattle.mw_rule.proofs.Calls.WorldAfterCalls.{calls_change_no_more}
use Rattle.mw_rule.proofs.call_laws.calls_change_no_more.Goals as goal

pub returns : goal.returns
returns c = calls_change_no_more
