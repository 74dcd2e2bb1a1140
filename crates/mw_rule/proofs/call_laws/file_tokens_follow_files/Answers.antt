-- Proves the law `file_tokens_follow_files`.
use Rattle.mw_rule.proofs.Calls.TokensAfterCalls.{file_tokens_follow_calls, file_tokens_follow_faults}
use Rattle.mw_rule.proofs.call_laws.file_tokens_follow_files.Goals as goal

pub returns : goal.returns
returns c = record { well = file_tokens_follow_calls; faults = file_tokens_follow_faults }
