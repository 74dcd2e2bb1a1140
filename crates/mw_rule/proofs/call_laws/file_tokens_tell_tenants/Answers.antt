-- Proves the law `file_tokens_tell_tenants`.
use Rattle.mw_rule.proofs.Calls.TokenLaws.{each_file_has_a_token, file_tokens_stay, file_tokens_stay_long, file_tokens_stay_over_calls, starts_have_file_tokens}
use Rattle.mw_rule.proofs.call_laws.file_tokens_tell_tenants.Goals as goal

pub returns : goal.returns
returns c = record { start = starts_have_file_tokens; each = each_file_has_a_token; event = file_tokens_stay; long = file_tokens_stay_long; same = file_tokens_stay_over_calls }
