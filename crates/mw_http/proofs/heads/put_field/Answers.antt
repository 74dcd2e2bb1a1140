-- Goals of `put_field` (src/heads.rt).
use Rattle.std.proofs.Common.{arith}
use Rattle.std.proofs.lemmas.Grind.{common_steps}
use Rattle.mw_http.specs.Heads.{field}
use Rattle.mw_http.proofs.heads.put_field.Goals as goal

pub returns-clause-line : goal.returns-clause-line
unfolding field
returns-clause-line c = grind (arith, common_steps)
