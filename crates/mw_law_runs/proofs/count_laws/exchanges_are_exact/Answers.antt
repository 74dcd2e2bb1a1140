-- Proves the law `exchanges_are_exact`.
use Rattle.mw_law_runs.proofs.Counts.Exact.{exchanges-are-exact}
use Rattle.mw_law_runs.proofs.count_laws.exchanges_are_exact.Goals as goal

pub returns : goal.returns
returns c = exchanges-are-exact
