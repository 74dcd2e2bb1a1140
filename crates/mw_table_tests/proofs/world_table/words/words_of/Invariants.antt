-- Loop invariants of `words_of` (src/world_table/words.rt).
use Rattle.std.proofs.Common.{◌≡◌, ◌<◌, ℕ, length, slice_index}
use Rattle.mw_world.specs.Definition.State.{State}
use Rattle.mw_simulator.specs.Representation.{Represents}
use Rattle.mw_table.specs.Places.{IsAt}
use Rattle.mw_table_tests.proofs.world_table.words.words_of.Given as goal

abbrev pub invariant-loop-index : goal.invariant-loop-index
invariant-loop-index l = record {
  long : length l.words.items ≡ l.index;
  placed : (state : State) → Represents l.world state → (k : ℕ) → k < l.index → IsAt l.world.config state.cells k (slice_index l.words.items k);
}
