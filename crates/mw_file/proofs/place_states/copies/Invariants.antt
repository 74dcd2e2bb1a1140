-- Loop invariants of `copies` (src/place_states.rt).
use Rattle.std.proofs.Common.{◌≡◌, take}
use Rattle.mw_file.proofs.place_states.copies.Given as goal

-- the states so far
abbrev pub invariant-loop-state : goal.invariant-loop-state
invariant-loop-state l = l.copies.items ≡ take l.state-index l.states
