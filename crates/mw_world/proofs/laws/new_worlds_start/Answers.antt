-- Proves the law `new_worlds_start`.
use Rattle.mw_world.proofs.FirstInvariant.{new_worlds_start}
use Rattle.mw_world.proofs.laws.new_worlds_start.Goals as goal

pub returns : goal.returns
returns c = new_worlds_start
