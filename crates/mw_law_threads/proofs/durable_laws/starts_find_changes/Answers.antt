-- Proves the law `starts_find_changes`.
use Rattle.mw_law_threads.proofs.Durable.FoundChanges.{starts_find_changes}
use Rattle.mw_law_threads.proofs.durable_laws.starts_find_changes.Goals as goal

pub returns : goal.returns
returns g c = starts_find_changes g.D.Disk.facts g.E.Disk.facts
