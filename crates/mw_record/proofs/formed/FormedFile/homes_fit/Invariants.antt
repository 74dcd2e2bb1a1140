-- Loop invariants of `FormedFile::homes_fit` (src/formed.rt).
use Rattle.std.proofs.Common.{◌≡◌, true}
use Rattle.mw_record.specs.Records as spec
use Rattle.mw_record.proofs.formed.FormedFile.homes_fit.Given as goal

-- the words so far pass the test
abbrev pub invariant-loop-addr : goal.invariant-loop-addr
invariant-loop-addr l = spec.homes_fit (spec.home l.self.bytes.now) (spec.record_at l.self.layout l.self.bytes.now l.self.words) l.self.places l.addr ≡ true
