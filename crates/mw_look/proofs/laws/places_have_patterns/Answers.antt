-- Proves the law `places_have_patterns`.
use Rattle.mw_look.proofs.PlaceLaws.{packs_fit, packs_are_unpacked, packs_are_apart, packs_are_seen, nil_is_zero}
use Rattle.mw_look.proofs.laws.places_have_patterns.Goals as goal

pub returns : goal.returns
returns c = record { fit = packs_fit; unpacked = packs_are_unpacked; apart = packs_are_apart; seen = packs_are_seen; nil = nil_is_zero }
