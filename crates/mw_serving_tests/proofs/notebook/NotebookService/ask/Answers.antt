-- Goals of `NotebookService::ask` (src/notebook.rt).
use Rattle.std.proofs.Common.{arith}
use Rattle.std.proofs.lemmas.Grind.{common_steps}
use Rattle.mw_serving_tests.proofs.notebook.NotebookService.ask.Goals as goal

pub returns-else-is_err-clause-answered : goal.returns-else-is_err-clause-answered
returns-else-is_err-clause-answered c = grind (arith, common_steps)
