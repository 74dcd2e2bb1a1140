-- Proves the law `changes_fit`.
use Rattle.mw_law_store.proofs.DecidedChangesFit.{decided_changes_fit}
use Rattle.mw_law_store.proofs.laws.changes_fit.Goals as goal

pub returns : goal.returns
returns c = decided_changes_fit
