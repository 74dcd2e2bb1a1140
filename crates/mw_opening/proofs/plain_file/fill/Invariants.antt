-- Loop invariants of `fill` (src/plain_file.rt).
use Rattle.std.proofs.Common.{◌≡◌, ◌≤◌, length, take}
use Rattle.std.specs.Io.KnownBytes.{Consumes}
use Rattle.mw_opening.proofs.plain_file.fill.Given as goal

-- the front of the room is what the file gave so far
abbrev pub invariant-loop : goal.invariant-loop
invariant-loop g l = (length l.room ≡ length l.initial.room) × (l.count ≤ length l.room) × Consumes (g.F.Read.remaining l.initial.file) (g.F.Read.remaining l.file) (take l.count l.room)
