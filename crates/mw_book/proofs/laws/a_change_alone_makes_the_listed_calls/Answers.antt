-- Proves the law `a_change_alone_makes_the_listed_calls`.
use Rattle.mw_book.proofs.AloneChanges.{makes_listed, leaves_none_ahead, leaves_none_prepared, runs_listed}
use Rattle.mw_book.proofs.laws.a_change_alone_makes_the_listed_calls.Goals as goal

pub returns-clause-listed : goal.returns-clause-listed
returns-clause-listed g c = makes_listed g.D.Disk.facts

pub returns-clause-none_ahead : goal.returns-clause-none_ahead
returns-clause-none_ahead g c = leaves_none_ahead g.D.Disk.facts

pub returns-clause-none_prepared : goal.returns-clause-none_prepared
returns-clause-none_prepared g c = leaves_none_prepared g.D.Disk.facts

pub returns-clause-runs : goal.returns-clause-runs
returns-clause-runs g c = runs_listed g.D.Disk.facts
