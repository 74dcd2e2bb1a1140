-- Proves the law `short_runs_have_numbers`.
use Rattle.mw_law_runs.proofs.ShortRuns.{short_runs_have_numbers}
use Rattle.mw_law_runs.proofs.laws.short_runs_have_numbers.Goals as goal

pub returns : goal.returns
returns c = short_runs_have_numbers
