-- Proves the law `replies_give_back`.
use Rattle.mw_law_runs.proofs.Requests.BalanceLaws.{replies-give-back}
use Rattle.mw_law_runs.proofs.request_laws.replies_give_back.Goals as goal

pub returns : goal.returns
returns c = replies-give-back
