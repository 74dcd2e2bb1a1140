-- Proves the law `file_tokens_tell_files`.
use Rattle.mw_rule.proofs.Calls.TokensTellCalls.{file_tokens_tell_calls, file_tokens_tell_files, file_tokens_tell_opened_files}
use Rattle.mw_rule.proofs.call_laws.file_tokens_tell_files.Goals as goal

pub returns : goal.returns
returns c = record { calls = file_tokens_tell_calls; files = file_tokens_tell_files; opened = file_tokens_tell_opened_files }
