-- Goals of `serve_both` (src/desk.rt).
use Rattle.std.proofs.Common.{arith}
use Rattle.std.proofs.lemmas.Grind.{common_steps}
use Rattle.mw_workers.proofs.desk.serve_both.Goals as goal

pub scoped-requires : goal.scoped-requires
scoped-requires c = grind (arith, common_steps)
