-- Loop invariants of `played` (src/worlds.rt).
use Rattle.std.proofs.Common.{◌≡◌}
use Rattle.mw_table_tests.specs.Reached.{IsReached}
use Rattle.mw_table_tests.proofs.worlds.played.Given as goal

abbrev pub invariant-loop-worker : goal.invariant-loop-worker
invariant-loop-worker l = record { reached : IsReached l.world; config : l.world.config ≡ l.fn.config }
