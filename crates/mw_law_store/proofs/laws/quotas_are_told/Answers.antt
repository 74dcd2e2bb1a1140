-- Proves the law `quotas_are_told`.
use Rattle.mw_law_store.proofs.Quotas.{events_tell_quotas, quotas_are_told, quotas_may_stay, quotas_stay_within_the_pool}
use Rattle.mw_law_store.proofs.laws.quotas_are_told.Goals as goal

pub returns-clause-events : goal.returns-clause-events
returns-clause-events c = events_tell_quotas

pub returns-clause-told : goal.returns-clause-told
returns-clause-told c = quotas_are_told

pub returns-clause-together : goal.returns-clause-together
returns-clause-together c = quotas_stay_within_the_pool

pub returns-clause-stay : goal.returns-clause-stay
returns-clause-stay c = quotas_may_stay
