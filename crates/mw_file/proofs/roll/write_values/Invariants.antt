-- Loop invariants of `write_values` (src/roll.rt).
use Rattle.std.proofs.Common.{ℕ, take, drop, map, Some}
use Rattle.mw_disk.specs.Runs.{Good, Later}
use Rattle.mw_file.specs.RollForward.{HasHomes, IsBelow}
use Rattle.mw_file.specs.DeviceCalls.{home_call}
use Rattle.mw_file.proofs.CallLoops.{Continues}
use Rattle.mw_file.proofs.OneWrite.{IsPut}
use Rattle.mw_file.proofs.roll.write_values.Given as goal

-- each value so far took a call that went well, and is in its home word; the calls for the values that are left
-- make all calls
abbrev pub invariant-loop-write : goal.invariant-loop-write
invariant-loop-write g l =
    Good l.write-index (g.D.Disk.facts l.initial.disk) (g.D.Disk.facts l.disk)
    × Later (g.D.Disk.facts l.initial.disk) (g.D.Disk.facts l.disk)
    × ((words : ℕ) → HasHomes (g.D.Disk.facts l.initial.disk) l.at words → IsBelow words (Some l.writes.items)
    → IsPut l.at words l.writes.items (take l.write-index l.writes.items) (g.D.Disk.facts l.initial.disk) (g.D.Disk.facts l.disk))
    × Continues g.D.Disk.made (map (home_call l.at) l.writes.items) (map (home_call l.at) (drop l.write-index l.writes.items)) l.initial.disk l.disk
