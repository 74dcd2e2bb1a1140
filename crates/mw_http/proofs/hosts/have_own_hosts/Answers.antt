-- Goals of `have_own_hosts` (src/hosts.rt).
use Rattle.std.proofs.Common.{arith}
use Rattle.std.proofs.lemmas.Grind.{common_steps}
use Rattle.mw_http.proofs.hosts.have_own_hosts.Goals as goal

pub loop-field-preserved : goal.loop-field-preserved
loop-field-preserved c = grind (arith, common_steps)

pub returns-then-not-is_own_field : goal.returns-then-not-is_own_field
returns-then-not-is_own_field c = grind (arith, common_steps)

pub returns : goal.returns
returns c = grind (arith, common_steps)
