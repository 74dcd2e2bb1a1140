-- Proves the law `every_moment_leaves_whole_changes`.
use Rattle.mw_law_threads.proofs.Durable.DurableLaws.{moments_leave_whole_changes}
use Rattle.mw_law_threads.proofs.durable_laws.every_moment_leaves_whole_changes.Goals as goal

pub returns : goal.returns
returns g c key = moments_leave_whole_changes g.D.Disk.facts (g.B.Begins.config key) (g.B.Begins.begun key)
