-- Proves the law `runs_are_not_worn`.
use Rattle.mw_law_store.proofs.Numbers.{runs_are_not_worn}
use Rattle.mw_law_store.proofs.laws.runs_are_not_worn.Goals as goal

pub returns : goal.returns
returns c = runs_are_not_worn
