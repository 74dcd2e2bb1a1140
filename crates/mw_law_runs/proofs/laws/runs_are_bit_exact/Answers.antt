-- Proves the law `runs_are_bit_exact`.
use Rattle.mw_law_runs.proofs.BitExactness.{runs_are_bit_exact}
use Rattle.mw_law_runs.proofs.laws.runs_are_bit_exact.Goals as goal

pub returns : goal.returns
returns c = runs_are_bit_exact
