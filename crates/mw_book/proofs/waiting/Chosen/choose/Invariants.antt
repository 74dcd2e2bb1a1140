-- Loop invariants of `Chosen::choose` (src/waiting.rt).
use Rattle.std.proofs.Common.{◌≤◌, drop, length}
use Rattle.mw_words.specs.declared.limits.TheConstants.{MAX_PLACES}
use Rattle.mw_book.specs.declared.waiting.TheConstants.{MOST_AHEAD}
use Rattle.mw_book.specs.ChosenPlaces.{AreChosen, IsUnderWay, free_within}
use Rattle.mw_book.specs.RecordsAhead.{first_ready}
use Rattle.mw_book.proofs.waiting.Chosen.choose.Given as goal

-- those that were chosen so far may be prepared, and are no more than the changes that were looked at
abbrev pub invariant-loop-change : goal.invariant-loop-change
invariant-loop-change l = record {
  are : AreChosen l.words l.states l.table l.places l.low l.self.table l.self.changes.items l.self.top;
  fewer : length l.self.changes.items ≤ l.change-index;
  most : length l.self.changes.items ≤ MOST_AHEAD;
  top : l.self.top ≤ MAX_PLACES;
  under : IsUnderWay l.words l.states l.table l.places l.low l.slot (first_ready l.words l.states l.table l.places l.slot (free_within l.states l.table l.low l.places) l.waiting) l.self.table l.self.changes.items l.self.top
      (drop l.change-index l.waiting);
}
