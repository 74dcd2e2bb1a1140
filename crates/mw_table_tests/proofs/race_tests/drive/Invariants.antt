-- Loop invariants of `drive` (src/race_tests.rt).
use Rattle.mw_core.specs.FromTable.{IsCarried, IsOf}
use Rattle.mw_table_tests.proofs.race_tests.drive.Given as goal

abbrev pub invariant-loop : goal.invariant-loop
invariant-loop l = record { own : IsOf l.core.shared l.pass; carried : IsCarried l.pass l.actor }
