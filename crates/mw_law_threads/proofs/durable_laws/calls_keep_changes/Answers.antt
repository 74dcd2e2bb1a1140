-- Proves the law `calls_keep_changes`.
use Rattle.mw_law_threads.proofs.Durable.DurableLaws.{calls_keep_changes, calls_leave_whole_changes, calls_leave_wholly_or_not}
use Rattle.mw_law_threads.proofs.durable_laws.calls_keep_changes.Goals as goal

pub returns-clause-whole : goal.returns-clause-whole
returns-clause-whole g c = calls_leave_whole_changes g.D.Disk.facts

pub returns-clause-kept : goal.returns-clause-kept
returns-clause-kept g c = calls_keep_changes g.D.Disk.facts

pub returns-clause-wholly : goal.returns-clause-wholly
returns-clause-wholly g c = calls_leave_wholly_or_not g.D.Disk.facts
