-- Proves the law `statuses_wait`.
use Rattle.mw_rule.proofs.Calls.StableStatusLaws.{statuses_wait, statuses_wait_long}
use Rattle.mw_rule.proofs.call_laws.statuses_wait.Goals as goal

pub returns : goal.returns
returns c = record { event = statuses_wait; long = statuses_wait_long }
