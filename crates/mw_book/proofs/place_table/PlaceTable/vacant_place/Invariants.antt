-- Loop invariants of `PlaceTable::vacant_place` (src/place_table.rt).
use Rattle.std.proofs.Common.{◌≡◌, ◌-◌}
use Rattle.mw_book.specs.Permits.{vacant_from, vacant_place}
use Rattle.mw_book.proofs.place_table.PlaceTable.vacant_place.Given as goal

-- no place so far is vacant
abbrev pub invariant-loop-place : goal.invariant-loop-place
invariant-loop-place l = vacant_from l.states l.self l.place (l.places - l.place) ≡ vacant_place l.states l.self l.places
