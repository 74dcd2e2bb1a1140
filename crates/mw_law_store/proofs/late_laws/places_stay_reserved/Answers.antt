-- Proves the law `places_stay_reserved`.
use Rattle.mw_law_store.proofs.Late.ReservedPlaces.{place-is-reserved, reserved-beside-line, reserved-beside-late}
use Rattle.mw_law_store.proofs.late_laws.places_stay_reserved.Goals as goal

pub returns : goal.returns
returns c = record { kept = place-is-reserved; line = reserved-beside-line; other = reserved-beside-late }
