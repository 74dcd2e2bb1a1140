-- Proves the law `who_frees_is_alone`.
use Rattle.mw_law_runs.proofs.Counts.Room.{who-frees-is-alone}
use Rattle.mw_law_runs.proofs.count_laws.who_frees_is_alone.Goals as goal

pub returns : goal.returns
returns c = who-frees-is-alone
