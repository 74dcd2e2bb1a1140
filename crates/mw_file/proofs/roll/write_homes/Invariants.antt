-- Loop invariants of `write_homes` (src/roll.rt).
use Rattle.std.proofs.Common.{ℕ, ◌≡◌, ◌<◌, take, drop}
use Rattle.mw_disk.specs.Runs.{Good, Later, Touched}
use Rattle.mw_record.specs.Records.{home, all_over}
use Rattle.mw_file.specs.PlaceStates.{home_writes}
use Rattle.mw_file.specs.RollForward.{Behind, InHomes, HasHomes, AreBelow, kept_of}
use Rattle.mw_file.specs.DeviceCalls.{home_calls}
use Rattle.mw_file.proofs.CallLoops.{Continues}
use Rattle.mw_file.proofs.roll.write_homes.Given as goal

-- each value of the sealed places so far took a call that went well, and is in its home word; the calls for the places that are left
-- make all calls
abbrev pub invariant-loop-state : goal.invariant-loop-state
invariant-loop-state g l =
    Good (home_writes (take l.state-index l.states)) (g.D.Disk.facts l.initial.disk) (g.D.Disk.facts l.disk)
    × Later (g.D.Disk.facts l.initial.disk) (g.D.Disk.facts l.disk)
    × ((words : ℕ) → HasHomes (g.D.Disk.facts l.initial.disk) l.at words → AreBelow words l.states
    → Touched (Behind l.at (InHomes l.states)) (g.D.Disk.facts l.initial.disk) (g.D.Disk.facts l.disk)
    × ((addr : ℕ) → addr < words
    → home (drop l.at (g.D.Disk.facts l.disk).reads) addr ≡ all_over (kept_of l.states) l.state-index addr (home (drop l.at (g.D.Disk.facts l.initial.disk).reads) addr)))
    × Continues g.D.Disk.made (home_calls l.at l.states) (home_calls l.at (drop l.state-index l.states)) l.initial.disk l.disk
