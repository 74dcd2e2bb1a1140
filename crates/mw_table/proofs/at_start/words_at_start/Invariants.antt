-- Loop invariants of `words_at_start` (src/at_start.rt).
use Rattle.std.proofs.Common.{◌≡◌, ◌<◌, ℕ, length, slice_index}
use Rattle.mw_table.specs.TableAtStart.{world_given}
use Rattle.mw_table.specs.Places.{IsAt}
use Rattle.mw_table.proofs.at_start.words_at_start.Given as goal

abbrev pub invariant-loop-index : goal.invariant-loop-index
invariant-loop-index l = record {
  long : length l.words.items ≡ l.index;
  placed : (k : ℕ) → k < l.index → IsAt l.config (world_given l.config l.openings).cells k (slice_index l.words.items k);
}
