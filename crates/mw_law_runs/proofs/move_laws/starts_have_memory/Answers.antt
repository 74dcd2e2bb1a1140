-- Proves the law `starts_have_memory`.
use Rattle.mw_law_runs.proofs.Moves.MemoryAtStart.{starts_have_memory}
use Rattle.mw_law_runs.proofs.move_laws.starts_have_memory.Goals as goal

pub returns : goal.returns
returns c = starts_have_memory
