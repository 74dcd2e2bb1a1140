-- Proves the law `places_are_there`.
use Rattle.mw_law_runs.proofs.Places.PlaceInvariant.{places_are_there}
use Rattle.mw_law_runs.proofs.laws.places_are_there.Goals as goal

pub returns : goal.returns
returns c = places_are_there
