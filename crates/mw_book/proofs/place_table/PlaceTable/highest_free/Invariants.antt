-- Loop invariants of `PlaceTable::highest_free` (src/place_table.rt).
use Rattle.std.proofs.Common.{◌≡◌, ◌<◌, ◌≤◌, ℕ, false}
use Rattle.mw_book.specs.RecordsAhead.{is_free}
use Rattle.mw_book.proofs.place_table.PlaceTable.highest_free.Given as goal

-- no place from this one on is free
abbrev pub invariant-loop-place : goal.invariant-loop-place
invariant-loop-place l = (k : ℕ) → l.place ≤ k → k < l.top → is_free l.states l.self k ≡ false
