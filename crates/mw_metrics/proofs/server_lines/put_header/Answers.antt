-- Goals of `put_header` (src/server_lines.rt).
use Rattle.std.proofs.Common.{arith}
use Rattle.std.proofs.lemmas.Grind.{common_steps}
use Rattle.mw_metrics.specs.Figures.{header}
use Rattle.mw_metrics.proofs.server_lines.put_header.Goals as goal

pub returns-clause-header : goal.returns-clause-header
unfolding header
returns-clause-header c = grind (arith, common_steps)
