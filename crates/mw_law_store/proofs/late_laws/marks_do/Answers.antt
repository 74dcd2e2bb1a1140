-- Proves the law `marks_do`.
use Rattle.mw_law_store.proofs.Late.MarkEffectLaws.{marks-do, doing-marks}
use Rattle.mw_law_store.proofs.late_laws.marks_do.Goals as goal

pub returns : goal.returns
returns c = record { does = marks-do; legal = doing-marks }
