-- Loop invariants of `after_entries` (src/dump.rt).
use Rattle.mwinit.specs.Dump.{HasEntries}
use Rattle.mwinit.proofs.dump.after_entries.Given as goal

-- the lines so far are entries
abbrev pub invariant-loop : goal.invariant-loop
invariant-loop l = HasEntries l.text l.rest
