-- Proves the law `labels_keep_history_match`.
use Rattle.mw_law_store.proofs.HistoryMatchLaws.{labels_keep_history_match}
use Rattle.mw_law_store.proofs.laws.labels_keep_history_match.Goals as goal

pub returns : goal.returns
returns c = labels_keep_history_match
