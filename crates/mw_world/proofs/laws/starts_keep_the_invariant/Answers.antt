-- Proves the law `starts_keep_the_invariant`.
use Rattle.mw_world.proofs.FirstInvariant.{first_invariant}
use Rattle.mw_world.proofs.laws.starts_keep_the_invariant.Goals as goal

pub returns : goal.returns
returns c = first_invariant
