-- Proves the law `calls_are_made_by_file_token`.
use Rattle.mw_rule.proofs.Calls.TokenLaws.{calls_are_made_by_file_token, file_tokens_tell_of_calls}
use Rattle.mw_rule.proofs.call_laws.calls_are_made_by_file_token.Goals as goal

pub returns : goal.returns
returns c = record { told = file_tokens_tell_of_calls; made = calls_are_made_by_file_token }
