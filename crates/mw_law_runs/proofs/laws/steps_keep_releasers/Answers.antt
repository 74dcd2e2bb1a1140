-- Proves the law `steps_keep_releasers`.
use Rattle.mw_law_runs.proofs.Obligations.StepObligations.{steps_keep_releasers}
use Rattle.mw_law_runs.proofs.laws.steps_keep_releasers.Goals as goal

pub returns : goal.returns
returns c = steps_keep_releasers
