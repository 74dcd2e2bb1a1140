-- Goals of `put_lease` (src/server_lines.rt).
use Rattle.std.proofs.Common.{arith}
use Rattle.std.proofs.lemmas.Grind.{common_steps}
use Rattle.mw_metrics.specs.Figures.{lease_family}
use Rattle.mw_metrics.proofs.server_lines.put_lease.Goals as goal

pub returns-in-Some-clause-family : goal.returns-in-Some-clause-family
unfolding lease_family
returns-in-Some-clause-family c = grind (arith, common_steps)
