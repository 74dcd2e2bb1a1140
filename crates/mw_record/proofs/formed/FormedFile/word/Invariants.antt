-- Loop invariants of `FormedFile::word` (src/formed.rt).
use Rattle.std.proofs.Common.{◌≡◌}
use Rattle.mw_record.specs.Records as spec
use Rattle.mw_record.proofs.formed.FormedFile.word.Given as goal

-- the records of the places so far are put over the home word
abbrev pub invariant-loop-place : goal.invariant-loop-place
invariant-loop-place l = l.value ≡ spec.all_over (spec.record_at l.self.layout l.self.bytes.now l.self.words) l.place l.addr (spec.home l.self.bytes.now l.addr)
