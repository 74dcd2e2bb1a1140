-- Loop invariants of `PlaceTable::written_place` (src/place_table.rt).
use Rattle.std.proofs.Common.{◌≡◌, ◌-◌}
use Rattle.mw_book.specs.PreparedAhead.{written_from, written_place}
use Rattle.mw_book.proofs.place_table.PlaceTable.written_place.Given as goal

-- no place so far has the record
abbrev pub invariant-loop-place : goal.invariant-loop-place
invariant-loop-place l = written_from l.states l.self l.slot l.entries.items l.place (l.places - l.place) ≡ written_place l.states l.self l.slot l.entries.items l.places
