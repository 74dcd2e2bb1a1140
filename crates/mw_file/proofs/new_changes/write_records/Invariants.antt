-- Loop invariants of `write_records` (src/new_changes.rt).
use Rattle.std.proofs.Common.{ℕ, List, take, drop}
use Rattle.mw_disk.specs.Runs.{Good, Later}
use Rattle.mw_file.specs.declared.place_states.PlaceState.{PlaceState}
use Rattle.mw_file.specs.DeviceCalls.{record_calls}
use Rattle.mw_file.specs.NewChanges.{CanPrepare, AreRecorded, AreWritten}
use Rattle.mw_file.proofs.CallLoops.{Continues}
use Rattle.mw_file.proofs.new_changes.write_records.Given as goal

-- each record so far took a call that went well, and is in its place; the calls for the changes that are left make all calls
abbrev pub invariant-loop-change : goal.invariant-loop-change
invariant-loop-change g l =
    Good l.change-index (g.D.Disk.facts l.initial.disk) (g.D.Disk.facts l.disk)
    × Later (g.D.Disk.facts l.initial.disk) (g.D.Disk.facts l.disk)
    × ((contents : List ℕ) (states : List PlaceState) → CanPrepare (g.D.Disk.facts l.initial.disk) l.at l.words contents states l.changes
    → AreRecorded l.at l.words contents states (g.D.Disk.facts l.initial.disk) (g.D.Disk.facts l.disk)
    × AreWritten (drop l.at (g.D.Disk.facts l.disk).reads) l.words (take l.change-index l.changes))
    × Continues g.D.Disk.made (record_calls l.at l.words l.changes) (record_calls l.at l.words (drop l.change-index l.changes)) l.initial.disk l.disk
