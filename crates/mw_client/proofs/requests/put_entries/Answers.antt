-- Goals of `put_entries` (src/requests.rt).
use Rattle.std.proofs.Common.{arith}
use Rattle.std.proofs.lemmas.Grind.{common_steps}
use Rattle.mw_client.proofs.requests.put_entries.Goals as goal

pub loop-entry-preserved : goal.loop-entry-preserved
loop-entry-preserved c = grind (arith, common_steps)

pub returns-clause-entries : goal.returns-clause-entries
returns-clause-entries c = grind (arith, common_steps)
