-- Proves the law `every_moment_has_one_history`.
use Rattle.mw_law_threads.proofs.History.OneHistoryLaws.{moments_have_one_history}
use Rattle.mw_law_threads.proofs.history_laws.every_moment_has_one_history.Goals as goal

pub returns : goal.returns
returns g c = record { history = λ key. moments_have_one_history (g.B.Begins.config key) (g.B.Begins.begun key) }
