-- Loop invariants of `rises` (src/jobs.rt).
use Rattle.std.proofs.Common.{◌≡◌, drop}
use Rattle.mw_words.specs.Change.{rises, rises_from}
use Rattle.mw_words.proofs.jobs.rises.Given as goal

-- what is left rises from here on exactly where all of them rise
abbrev pub invariant-loop-entry : goal.invariant-loop-entry
invariant-loop-entry l = rises_from l.lowest (drop l.entry-index l.entries) ≡ rises l.entries
