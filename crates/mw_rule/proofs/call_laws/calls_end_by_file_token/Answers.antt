-- Proves the law `calls_end_by_file_token`.
use Rattle.mw_rule.proofs.Calls.CallsByTokenLaws.{calling_stays, calling_stays_long, calls_end_by_file_token}
use Rattle.mw_rule.proofs.call_laws.calls_end_by_file_token.Goals as goal

pub returns : goal.returns
returns c = record { event = calling_stays; long = calling_stays_long; end = calls_end_by_file_token }
