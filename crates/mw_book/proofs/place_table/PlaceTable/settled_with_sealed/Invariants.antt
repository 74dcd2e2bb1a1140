-- Loop invariants of `PlaceTable::settled_with_sealed` (src/place_table.rt).
use Rattle.std.proofs.Common.{◌≡◌, ◌<◌, ◌≤◌, ◌||◌, ℕ, length}
use Rattle.mw_words.specs.declared.limits.TheConstants.{MAX_PLACES}
use Rattle.mw_book.specs.FilePlaces.{flag_of}
use Rattle.mw_book.specs.SettledAhead.{is_sealed_stage}
use Rattle.mw_book.specs.Representation.{is_settled, stage_in_file}
use Rattle.mw_book.proofs.place_table.PlaceTable.settled_with_sealed.Given as goal

-- the change of each place so far is settled ahead if it was or is sealed, that of each further place if it was
abbrev pub invariant-loop-place : goal.invariant-loop-place
invariant-loop-place l = record {
  long : length l.flags ≡ MAX_PLACES;
  so_far : (k : ℕ) → k < l.place → flag_of l.flags k ≡ (is_settled l.self k || is_sealed_stage (stage_in_file l.states l.self k));
  further : (k : ℕ) → l.place ≤ k → flag_of l.flags k ≡ is_settled l.self k;
}
