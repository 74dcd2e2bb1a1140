-- Proves the law `starts_find_one_thing`.
use Rattle.mw_simulator.proofs.OneFound.{one_found}
use Rattle.mw_simulator.proofs.laws.starts_find_one_thing.Goals as goal

pub returns : goal.returns
returns c = one_found
