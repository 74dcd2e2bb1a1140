-- Loop invariants of `Record::holds` (src/records.rt).
use Rattle.std.proofs.Common.{◌≡◌, drop}
use Rattle.mw_record.specs.Records as spec
use Rattle.mw_record.proofs.records.Record.holds.Given as goal

-- the rest of the record passes the test exactly if the whole record passes it
abbrev pub invariant-loop-i : goal.invariant-loop-i
invariant-loop-i l = spec.holds (drop l.i l.self) l.addr ≡ spec.holds l.self l.addr
