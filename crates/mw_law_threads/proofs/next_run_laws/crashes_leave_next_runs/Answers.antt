-- Proves the law `crashes_leave_next_runs`.
use Rattle.mw_law_threads.proofs.NextRuns.FoundAfterCrashLaws.{crashes_leave_next_runs}
use Rattle.mw_law_threads.proofs.next_run_laws.crashes_leave_next_runs.Goals as goal

pub returns : goal.returns
returns g c key = crashes_leave_next_runs g.D.Disk.facts (g.B.Begins.config key) (g.B.Begins.begun key)
