-- Goals of the thread that serves beside `main` (src/main.rt).
use Rattle.mwserve.proofs.ServedClients.{engine_keeps}
use Rattle.mwserve.proofs.fn.main.fn.run.spawn.Goals as goal

-- what is promised is kept by an engine of opened files
pub serve-status-requires-clause-promise : goal.serve-status-requires-clause-promise
serve-status-requires-clause-promise c κs within = engine_keeps _ _ _ _ _ _
