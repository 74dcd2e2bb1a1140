-- Proves the law `counts_have_rest`.
use Rattle.mw_law_runs.proofs.RequestsInWorlds.{counts_have_rest}
use Rattle.mw_law_runs.proofs.laws.counts_have_rest.Goals as goal

pub returns : goal.returns
returns c = counts_have_rest
