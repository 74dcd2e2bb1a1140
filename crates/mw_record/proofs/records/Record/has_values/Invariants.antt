-- Loop invariants of `Record::has_values` (src/records.rt).
use Rattle.std.proofs.Common.{◌≡◌, drop}
use Rattle.mw_record.specs.Records as spec
use Rattle.mw_record.proofs.records.Record.has_values.Given as goal

-- the rest of the record passes the test exactly if the whole record passes it
abbrev pub invariant-loop-i : goal.invariant-loop-i
invariant-loop-i l = spec.has_values (drop l.i l.self) ≡ spec.has_values l.self
