-- Loop invariants of `Record::over` (src/records.rt).
use Rattle.std.proofs.Common.{◌≡◌, drop}
use Rattle.mw_record.specs.Records as spec
use Rattle.mw_record.proofs.records.Record.over.Given as goal

-- the rest of the record put over the value so far gives what the whole record gives
abbrev pub invariant-loop-i : goal.invariant-loop-i
invariant-loop-i l = spec.over (drop l.i l.self) l.addr l.value ≡ spec.over l.self l.addr l.fn.value
