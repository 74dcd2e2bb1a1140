-- Proves the law `steps_keep_memory`.
use Rattle.mw_law_runs.proofs.Moves.StepsKeepMemory.{calls_keep, restarts_have, turns_keep}
use Rattle.mw_law_runs.proofs.move_laws.steps_keep_memory.Goals as goal

pub returns-clause-turns : goal.returns-clause-turns
returns-clause-turns c = turns_keep

pub returns-clause-calls : goal.returns-clause-calls
returns-clause-calls c = calls_keep

pub returns-clause-restarts : goal.returns-clause-restarts
returns-clause-restarts c = restarts_have
