-- Proves the law `stores_go_on`.
use Rattle.mw_law_threads.proofs.NextRuns.LaterStoreLaws.{stores_go_on}
use Rattle.mw_law_threads.proofs.next_run_laws.stores_go_on.Goals as goal

pub returns : goal.returns
returns c = stores_go_on
