-- Loop invariants of `loads` (src/neighbour_tests.rt).
use Rattle.mw_core.specs.FromTable.{IsOf}
use Rattle.mw_table_tests.proofs.neighbour_tests.loads.Given as goal

abbrev pub invariant-loop-number : goal.invariant-loop-number
invariant-loop-number l = IsOf l.core.shared l.pass
