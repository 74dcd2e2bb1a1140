-- Proves the law `servers_in_turn_are_of_one_store`.
use Rattle.mw_law_threads.proofs.NextRuns.ServersInTurnLaws.{servers_in_turn}
use Rattle.mw_law_threads.proofs.next_run_laws.servers_in_turn_are_of_one_store.Goals as goal

pub returns : goal.returns
returns c = servers_in_turn
