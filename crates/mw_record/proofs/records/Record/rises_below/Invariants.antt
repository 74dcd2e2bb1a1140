-- Loop invariants of `Record::rises_below` (src/records.rt).
use Rattle.std.proofs.Common.{◌≡◌, drop}
use Rattle.mw_record.specs.Records as spec
use Rattle.mw_record.proofs.records.Record.rises_below.Given as goal

-- the rest of the record rises from here on exactly if the whole record rises
abbrev pub invariant-loop-i : goal.invariant-loop-i
invariant-loop-i l = spec.rises_below l.words l.lowest (drop l.i l.self) ≡ spec.rises_below l.words 0 l.self
