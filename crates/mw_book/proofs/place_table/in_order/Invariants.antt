-- Loop invariants of `in_order` (src/place_table.rt).
use Rattle.std.proofs.Common.{◌≡◌, ◌<◌, ℕ, length, get_or}
use Rattle.mw_words.specs.declared.limits.TheConstants.{MAX_PLACES}
use Rattle.mw_book.proofs.place_table.in_order.Given as goal

-- each place so far has its own number
abbrev pub invariant-loop-place : goal.invariant-loop-place
invariant-loop-place l = record {
  long : length l.table ≡ MAX_PLACES;
  so_far : (k : ℕ) → k < l.place → get_or l.table k k ≡ k;
}
