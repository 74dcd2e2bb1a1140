-- Goals of `put_reply_line` (src/tenant_lines.rt).
use Rattle.std.proofs.Common.{arith}
use Rattle.std.proofs.lemmas.Grind.{common_steps}
use Rattle.mw_metrics.proofs.tenant_lines.put_reply_line.Goals as goal

pub returns-clause-line : goal.returns-clause-line
returns-clause-line c = grind (arith, common_steps)
