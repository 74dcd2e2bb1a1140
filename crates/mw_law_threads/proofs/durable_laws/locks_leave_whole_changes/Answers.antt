-- Proves the law `locks_leave_whole_changes`.
use Rattle.mw_law_threads.proofs.Durable.LockLaws.{locks_leave_whole_changes}
use Rattle.mw_law_threads.proofs.durable_laws.locks_leave_whole_changes.Goals as goal

pub returns : goal.returns
returns g c = locks_leave_whole_changes g.D.Disk.facts
