-- Proves the law `calls_can_start`.
use Rattle.mw_rule.proofs.Calls.CallStartLaws.{calls_can_start}
use Rattle.mw_rule.proofs.call_laws.calls_can_start.Goals as goal

pub returns : goal.returns
returns c = calls_can_start
