-- Goals of `put_uptime` (src/server_lines.rt).
use Rattle.std.proofs.Common.{arith}
use Rattle.std.proofs.lemmas.Grind.{common_steps}
use Rattle.mw_metrics.specs.Figures.{uptime_family}
use Rattle.mw_metrics.proofs.server_lines.put_uptime.Goals as goal

pub returns-clause-family : goal.returns-clause-family
unfolding uptime_family
returns-clause-family c = grind (arith, common_steps)
