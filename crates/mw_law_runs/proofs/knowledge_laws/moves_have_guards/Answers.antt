-- Proves the law `moves_have_guards`.
use Rattle.mw_law_runs.proofs.Knowledge.Guards.UpdateGuards.{updates_have_guards}
use Rattle.mw_law_runs.proofs.Knowledge.Guards.ReadGuards.{reads_have_guards}
use Rattle.mw_law_runs.proofs.knowledge_laws.moves_have_guards.Goals as goal

pub returns-clause-looks : goal.returns-clause-looks
returns-clause-looks c = reads_have_guards

pub returns-clause-updates : goal.returns-clause-updates
returns-clause-updates c = updates_have_guards
