-- Proves the law `memory_is_shared`.
use Rattle.mw_law_runs.proofs.Moves.Shared.{memory_is_shared, reliance_is_shared}
use Rattle.mw_law_runs.proofs.move_laws.memory_is_shared.Goals as goal

pub returns-clause-memory : goal.returns-clause-memory
returns-clause-memory c = memory_is_shared

pub returns-clause-reliance : goal.returns-clause-reliance
returns-clause-reliance c = reliance_is_shared
