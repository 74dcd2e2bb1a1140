-- Proves the law `reads_inform`.
use Rattle.mw_law_runs.proofs.Knowledge.Reads.ByPoint.{reads_inform}
use Rattle.mw_law_runs.proofs.knowledge_laws.reads_inform.Goals as goal

pub returns : goal.returns
returns c = reads_inform
