-- Proves the law `exchanges_are_typed`.
use Rattle.mw_law_runs.proofs.Moves.StepsKeepMemory.{exchanges_are_typed}
use Rattle.mw_law_runs.proofs.move_laws.exchanges_are_typed.Goals as goal

pub returns : goal.returns
returns c = exchanges_are_typed
