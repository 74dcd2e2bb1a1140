-- Proves the law `late_marks_are_legal`.
use Rattle.mw_law_store.proofs.Late.LateAnswers.{late-mark, late-mark-of-all, nothing-between}
use Rattle.mw_law_store.proofs.late_laws.late_marks_are_legal.Goals as goal

pub returns : goal.returns
returns c = record { late = late-mark; between = nothing-between; all = late-mark-of-all }
