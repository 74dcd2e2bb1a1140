-- Loop invariants of `free_place` (src/tenant_file.rt).
use Rattle.std.proofs.Common.{◌≡◌, drop}
use Rattle.mw_file.specs.PlaceStates.{free_from, free_place}
use Rattle.mw_file.proofs.tenant_file.free_place.Given as goal

-- no place so far is free
abbrev pub invariant-loop-place : goal.invariant-loop-place
invariant-loop-place l = free_from l.place (drop l.place l.states) ≡ free_place l.states
