-- Loop invariants of `copies` (src/places.rt).
use Rattle.std.proofs.Common.{◌≡◌, take}
use Rattle.mw_world_file.proofs.places.copies.Given as goal

-- the places so far
abbrev pub invariant-loop-place : goal.invariant-loop-place
invariant-loop-place l = l.copies.items ≡ take l.place-index l.places
