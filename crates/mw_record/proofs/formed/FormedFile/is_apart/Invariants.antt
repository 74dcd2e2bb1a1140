-- Loop invariants of `FormedFile::is_apart` (src/formed.rt).
use Rattle.std.proofs.Common.{◌≡◌, drop}
use Rattle.mw_record.specs.Records as spec
use Rattle.mw_record.proofs.formed.FormedFile.is_apart.Given as goal

-- the rest of the entries passes the test exactly if all entries pass it
abbrev pub invariant-loop-i : goal.invariant-loop-i
invariant-loop-i l = spec.is_apart (spec.record_at l.self.layout l.self.bytes.now l.self.words) l.places (drop l.i l.entries) ≡ spec.is_apart (spec.record_at l.self.layout l.self.bytes.now l.self.words) l.places l.entries
