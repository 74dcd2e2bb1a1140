-- Loop invariants of `free_states` (src/opening.rt).
use Rattle.std.proofs.Common.{◌≡◌, vec_len, true}
use Rattle.mw_file.specs.PlaceStates.{all_free}
use Rattle.mw_file.proofs.opening.free_states.Given as goal

-- there is one state for each turn so far, and all are free
abbrev pub invariant-loop : goal.invariant-loop
invariant-loop l = (all_free l.states.items ≡ true) × (vec_len l.states ≡ l.counter)
