-- Proves the law `requests_have_begun`.
use Rattle.mw_law_store.proofs.ReplyPlaceLaws as calls
use Rattle.mw_law_store.proofs.laws.requests_have_begun.Goals as goal

pub returns-clause-come : goal.returns-clause-come
returns-clause-come c = calls.requests_begin

pub returns-clause-stay : goal.returns-clause-stay
returns-clause-stay c = calls.requests_stay_begun

pub returns-clause-all : goal.returns-clause-all
returns-clause-all c = calls.requests_have_begun

pub returns-clause-jobs : goal.returns-clause-jobs
returns-clause-jobs c = calls.asks_tell_their_jobs
