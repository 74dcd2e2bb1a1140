-- Goals of `put_command` (src/requests.rt).
use Rattle.std.proofs.Common.{arith}
use Rattle.std.proofs.lemmas.Grind.{common_steps}
use Rattle.mw_client.proofs.Widths.{widths}
use Rattle.mw_client.proofs.requests.put_command.Goals as goal

pub put_entries-requires-clause-values : goal.put_entries-requires-clause-values
put_entries-requires-clause-values c = grind (arith, common_steps, widths)
