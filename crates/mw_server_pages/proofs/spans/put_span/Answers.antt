-- Goals of `put_span` (src/spans.rt).
use Rattle.std.proofs.Common.{arith}
use Rattle.std.proofs.lemmas.Grind.{common_steps}
use Rattle.mw_server_pages.specs.Spans.{span}
use Rattle.mw_server_pages.proofs.spans.put_span.Goals as goal

pub returns-clause-span : goal.returns-clause-span
unfolding span
returns-clause-span c = grind (arith, common_steps)
