-- Proves the law `what_is_sent_is_read`.
use Rattle.mw_client.proofs.RequestLineLaws.{sent_is_read}
use Rattle.mw_client.proofs.laws.what_is_sent_is_read.Goals as goal

pub returns : goal.returns
returns c = sent_is_read
