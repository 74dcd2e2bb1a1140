-- Loop invariants of `has_sealed` (src/opening.rt).
use Rattle.std.proofs.Common.{◌≡◌, take}
use Rattle.mw_file.specs.PlaceStates.{commit_writes}
use Rattle.mw_file.proofs.opening.has_sealed.Given as goal

-- no place so far is sealed
abbrev pub invariant-loop-state : goal.invariant-loop-state
invariant-loop-state l = commit_writes (take l.state-index l.states) ≡ 0
