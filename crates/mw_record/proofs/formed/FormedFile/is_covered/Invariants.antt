-- Loop invariants of `FormedFile::is_covered` (src/formed.rt).
use Rattle.std.proofs.Common.{◌≡◌, false}
use Rattle.mw_record.specs.Records as spec
use Rattle.mw_record.proofs.formed.FormedFile.is_covered.Given as goal

-- no record of the places so far has the address
abbrev pub invariant-loop-place : goal.invariant-loop-place
invariant-loop-place l = spec.is_covered (spec.record_at l.self.layout l.self.bytes.now l.self.words) l.place l.addr ≡ false
