-- Proves the law `replies_commute`.
use Rattle.mw_law_store.proofs.Late.RequestsOfMarks.{replies-commute, others-left}
use Rattle.mw_law_store.proofs.late_laws.replies_commute.Goals as goal

pub returns : goal.returns
returns c = record { commute = replies-commute; left = others-left }
