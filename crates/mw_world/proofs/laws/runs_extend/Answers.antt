-- Proves the law `runs_extend`.
use Rattle.mw_world.proofs.RunsExtend.{run-extends}
use Rattle.mw_world.proofs.laws.runs_extend.Goals as goal

pub returns : goal.returns
returns c = run-extends
