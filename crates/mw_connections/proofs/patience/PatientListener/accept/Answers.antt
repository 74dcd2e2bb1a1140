-- Goals of `PatientListener::accept` (src/patience.rt).
use Rattle.std.proofs.Common.{arith}
use Rattle.std.proofs.lemmas.Grind.{common_steps}
use Rattle.mw_connections.proofs.patience.PatientListener.accept.Goals as goal

pub returns-after-not-self : goal.returns-after-not-self
returns-after-not-self c = grind (arith, common_steps)
