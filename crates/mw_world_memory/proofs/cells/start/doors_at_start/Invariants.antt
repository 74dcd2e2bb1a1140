-- Loop invariants of `doors_at_start` (src/cells/start.rt).
use Rattle.std.proofs.Common.{◌≡◌, take, map}
use Rattle.mw_world_memory.specs.Openings.{first_door}
use Rattle.mw_world_memory.proofs.cells.start.doors_at_start.Given as goal

-- there is a door for each opening so far
abbrev pub invariant-loop-opening : goal.invariant-loop-opening
invariant-loop-opening l = l.doors.items ≡ map first_door (take l.opening-index l.openings)
