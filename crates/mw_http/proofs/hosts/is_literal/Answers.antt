-- Goals of `is_literal` (src/hosts.rt).
use Rattle.std.proofs.Common.{arith}
use Rattle.std.proofs.lemmas.Grind.{common_steps}
use Rattle.mw_http.proofs.hosts.is_literal.Goals as goal

pub returns-then-rest-len-eq93 : goal.returns-then-rest-len-eq93
returns-then-rest-len-eq93 c = grind (arith, common_steps)
