-- Proves the law `runs_number`.
use Rattle.mw_law_store.proofs.Late.RequestNumbers.{runs-number}
use Rattle.mw_law_store.proofs.late_laws.runs_number.Goals as goal

pub returns : goal.returns
returns c = runs-number
