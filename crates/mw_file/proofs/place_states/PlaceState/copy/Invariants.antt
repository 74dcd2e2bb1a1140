-- Loop invariants of `PlaceState::copy` (src/place_states.rt).
use Rattle.std.proofs.Common.{◌≡◌, take}
use Rattle.mw_file.proofs.place_states.PlaceState.copy.Given as goal

-- the writes so far
abbrev pub invariant-loop-write : goal.invariant-loop-write
invariant-loop-write l = l.writes.items ≡ take l.write-index l.self.writes.items
