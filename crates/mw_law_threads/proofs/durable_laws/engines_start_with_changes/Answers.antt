-- Proves the law `engines_start_with_changes`.
use Rattle.mw_law_threads.proofs.Durable.EngineStarts.{engines_start_with_changes}
use Rattle.mw_law_threads.proofs.durable_laws.engines_start_with_changes.Goals as goal

pub returns : goal.returns
returns g c = engines_start_with_changes g.D.Disk.facts g.E.Disk.facts
