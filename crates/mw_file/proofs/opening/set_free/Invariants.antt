-- Loop invariants of `set_free` (src/opening.rt).
use Rattle.std.proofs.Common.{◌≡◌, take, true}
use Rattle.mw_file.specs.PlaceStates.{all_free}
use Rattle.mw_file.proofs.opening.set_free.Given as goal

-- each place so far is free
abbrev pub invariant-loop-state : goal.invariant-loop-state
invariant-loop-state l = all_free (take l.state-index l.states) ≡ true
