-- Proves the law `tables_in_turn_are_of_one_store`.
use Rattle.mw_law_threads.proofs.NextRuns.TablesInTurnLaws.{tables_in_turn}
use Rattle.mw_law_threads.proofs.next_run_laws.tables_in_turn_are_of_one_store.Goals as goal

pub returns : goal.returns
returns g c = tables_in_turn g.D.Disk.facts g.B.Begins.config g.B.Begins.begun
