-- Goals of `LockedPasses::serve` (src/locked_passes.rt).
use Rattle.mw_service.proofs.locked_passes.LockedPasses.serve.Goals as goal

-- some pass answered so: the one that was lent
pub returns-clause-answered : goal.returns-clause-answered
returns-clause-answered g c = ((_, _, c.serve.ensures.answered.0), c.serve.ensures.answered.1)
