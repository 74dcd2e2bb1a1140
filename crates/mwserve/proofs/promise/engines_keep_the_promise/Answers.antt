-- Proves the law `engines_keep_the_promise`.
use Rattle.mwserve.proofs.ServedClients.{engine_keeps}
use Rattle.mwserve.proofs.promise.engines_keep_the_promise.Goals as goal

pub returns : goal.returns
returns g c = engine_keeps g.D.Disk.facts g.D.Disk.made g.P.OpensDisks.is_over g.P.OpensDisks.is_refused g.R.OpensPaths.is_text
