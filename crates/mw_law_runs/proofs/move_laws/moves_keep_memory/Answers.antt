-- Proves the law `moves_keep_memory`.
use Rattle.mw_law_runs.proofs.Moves.MovesKeepMemory.{move_keeps, moves_keep}
use Rattle.mw_law_runs.proofs.move_laws.moves_keep_memory.Goals as goal

pub returns-clause-one : goal.returns-clause-one
returns-clause-one c = move_keeps

pub returns-clause-all : goal.returns-clause-all
returns-clause-all c = moves_keep
