-- Loop invariants of `clear_commits` (src/roll.rt).
use Rattle.std.proofs.Common.{ℕ, ◌≡◌, ◌+◌, ◌<◌, length, drop, slice_index, IsTrue, take}
use Rattle.mw_disk.specs.Runs.{Good, Later, Touched, Fits}
use Rattle.mw_record.specs.declared.layout.Layout.TheVariants.{Second}
use Rattle.mw_record.specs.Layout.{place_at}
use Rattle.mw_file.specs.declared.place_states.Stage.TheVariants.{Sealed}
use Rattle.mw_file.specs.PlaceStates.{commit_writes, stage_of}
use Rattle.mw_file.specs.RollForward.{Behind, AtCommits}
use Rattle.mw_file.specs.DeviceCalls.{clear_calls}
use Rattle.mw_file.proofs.CallLoops.{Continues}
use Rattle.mw_file.proofs.roll.clear_commits.Given as goal

-- each sealed place so far took a call that went well, and its commit byte is 0; the calls for the places that are left
-- make all calls
abbrev pub invariant-loop-state : goal.invariant-loop-state
invariant-loop-state g l =
    (l.place ≡ l.first + l.state-index)
    × Good (commit_writes (take l.state-index l.states)) (g.D.Disk.facts l.initial.disk) (g.D.Disk.facts l.disk)
    × Later (g.D.Disk.facts l.initial.disk) (g.D.Disk.facts l.disk)
    × (IsTrue (g.D.Disk.facts l.initial.disk).honest → Fits (g.D.Disk.facts l.initial.disk) (l.at + place_at Second l.words (l.first + length l.states))
    → Touched (Behind l.at (AtCommits l.words l.first l.states)) (g.D.Disk.facts l.initial.disk) (g.D.Disk.facts l.disk)
    × ((place : ℕ) → place < l.state-index → stage_of l.states place ≡ Sealed
    → slice_index (drop l.at (g.D.Disk.facts l.disk).reads) (place_at Second l.words (l.first + place)) ≡ 0))
    × Continues g.D.Disk.made (clear_calls l.at l.words l.first l.states)
    (clear_calls l.at l.words (l.first + l.state-index) (drop l.state-index l.states)) l.initial.disk l.disk
