-- Loop invariants of `gets` (src/neighbour_tests.rt).
use Rattle.mw_table_tests.specs.Readers.{MayGet}
use Rattle.mw_table_tests.proofs.neighbour_tests.gets.Given as goal

abbrev pub invariant-loop-number : goal.invariant-loop-number
invariant-loop-number l = MayGet l.core.shared l.pass l.tenant
