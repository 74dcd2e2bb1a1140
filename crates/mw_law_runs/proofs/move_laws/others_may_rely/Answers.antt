-- Proves the law `others_may_rely`.
use Rattle.mw_law_runs.proofs.Moves.Relied.{others_rely, others_rely_on_all, reliance_goes_on}
use Rattle.mw_law_runs.proofs.move_laws.others_may_rely.Goals as goal

pub returns-clause-one : goal.returns-clause-one
returns-clause-one c = others_rely

pub returns-clause-goes_on : goal.returns-clause-goes_on
returns-clause-goes_on c = reliance_goes_on

pub returns-clause-all : goal.returns-clause-all
returns-clause-all c = others_rely_on_all
