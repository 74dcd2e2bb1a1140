-- Goals of `Meters::text` (src/meters.rt).
use Rattle.std.proofs.Common.{arith}
use Rattle.std.proofs.lemmas.Grind.{common_steps}
use Rattle.mw_metrics.proofs.meters.Meters.text.Goals as goal

pub metrics_text-requires-clause-few : goal.metrics_text-requires-clause-few
metrics_text-requires-clause-few c = grind (arith, common_steps)
