-- Loop invariants of `SizedFile::place_of` (src/sized.rt).
use Rattle.std.proofs.Common.{◌≡◌}
use Rattle.mwshow.specs.Places.{first_of, comes_at}
use Rattle.mwshow.proofs.sized.SizedFile.place_of.Given as goal

-- none of the places so far makes the damage
abbrev pub invariant-loop-place : goal.invariant-loop-place
invariant-loop-place l = first_of (comes_at l.self.layout l.self.at l.self.words l.damage l.self.bytes.now) l.place ≡ l.place
