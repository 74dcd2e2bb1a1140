-- Proves the law `places_are_apart`.
use Rattle.mw_world.proofs.PlacesApart.{read-same, read-other}
use Rattle.mw_world.proofs.laws.places_are_apart.Goals as goal

pub returns-clause-same : goal.returns-clause-same
returns-clause-same c = read-same

pub returns-clause-other : goal.returns-clause-other
returns-clause-other c = read-other
