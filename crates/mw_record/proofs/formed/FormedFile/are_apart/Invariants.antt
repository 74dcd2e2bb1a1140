-- Loop invariants of `FormedFile::are_apart` (src/formed.rt).
use Rattle.std.proofs.Common.{◌≡◌, true}
use Rattle.mw_record.specs.Records as spec
use Rattle.mw_record.proofs.formed.FormedFile.are_apart.Given as goal

-- the places so far share no address
abbrev pub invariant-loop-place : goal.invariant-loop-place
invariant-loop-place l = spec.are_apart (spec.record_at l.self.layout l.self.bytes.now l.self.words) l.place ≡ true
