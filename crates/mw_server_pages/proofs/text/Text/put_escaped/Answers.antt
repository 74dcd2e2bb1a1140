-- Goals of `Text::put_escaped` (src/text.rt).
use Rattle.std.proofs.Common.{arith}
use Rattle.std.proofs.lemmas.Grind.{common_steps}
use Rattle.mw_server_pages.specs.Escapes.{escaped}
use Rattle.mw_server_pages.proofs.text.Text.put_escaped.Goals as goal

pub returns-clause-escaped : goal.returns-clause-escaped
unfolding escaped
returns-clause-escaped c = grind (arith, common_steps)

pub loop-byte-preserved : goal.loop-byte-preserved
unfolding escaped
loop-byte-preserved c = grind (arith, common_steps)
