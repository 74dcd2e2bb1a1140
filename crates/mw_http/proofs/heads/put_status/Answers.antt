-- Goals of `put_status` (src/heads.rt).
use Rattle.std.proofs.Common.{arith}
use Rattle.std.proofs.lemmas.Grind.{common_steps}
use Rattle.mw_http.proofs.Widths.{widths}
use Rattle.mw_http.specs.Heads.{status_line}
use Rattle.mw_http.proofs.heads.put_status.Goals as goal

pub put-requires-5 : goal.put-requires-5
unfolding status_line
put-requires-5 c = grind (arith, common_steps, widths)

pub returns-clause-line : goal.returns-clause-line
unfolding status_line
returns-clause-line c = grind (arith, common_steps, widths)

pub returns-clause-room : goal.returns-clause-room
unfolding status_line
returns-clause-room c = grind (arith, common_steps, widths)
