-- Goals of `put_line` (src/health.rt).
use Rattle.std.proofs.Common.{arith}
use Rattle.std.proofs.lemmas.Grind.{common_steps}
use Rattle.mw_server_pages.proofs.health.put_line.Goals as goal

pub returns-then-not-is_well-clause-line : goal.returns-then-not-is_well-clause-line
returns-then-not-is_well-clause-line c = grind (arith, common_steps)
