-- Proves the law `a_late_mark_comes_out`.
use Rattle.mw_law_store.proofs.Late.Examples.{late-mark-comes-out}
use Rattle.mw_law_store.proofs.late_laws.a_late_mark_comes_out.Goals as goal

pub returns : goal.returns
returns c = late-mark-comes-out
