-- Goals of the closure of `main` (src/main.rt).
use Rattle.mwserve.proofs.ServedClients.{engine_keeps}
use Rattle.mwserve.proofs.fn.main.run.Goals as goal

-- what is promised is kept by an engine of opened files
pub serve-requires-clause-promise : goal.serve-requires-clause-promise
serve-requires-clause-promise c κs within = engine_keeps _ _ _ _ _ _
