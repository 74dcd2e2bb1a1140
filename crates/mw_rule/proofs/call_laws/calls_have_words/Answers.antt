-- Proves the law `calls_have_words`.
use Rattle.mw_rule.proofs.Calls.CallStartLaws.{calls_have_words}
use Rattle.mw_rule.proofs.call_laws.calls_have_words.Goals as goal

pub returns : goal.returns
returns c = calls_have_words
