-- Loop invariants of `FormedFile::records_fit` (src/formed.rt).
use Rattle.std.proofs.Common.{◌≡◌, true}
use Rattle.mw_record.specs.Records as spec
use Rattle.mw_record.proofs.formed.FormedFile.records_fit.Given as goal

-- the records of the places so far have values of words
abbrev pub invariant-loop-place : goal.invariant-loop-place
invariant-loop-place l = spec.records_fit (spec.record_at l.self.layout l.self.bytes.now l.self.words) l.place ≡ true
