-- Goals of `is_port` (src/hosts.rt).
use Rattle.std.proofs.Common.{arith}
use Rattle.std.proofs.lemmas.Grind.{common_steps}
use Rattle.mw_http.proofs.hosts.is_port.Goals as goal

pub returns-then-text-eq58 : goal.returns-then-text-eq58
returns-then-text-eq58 c = grind (arith, common_steps)
