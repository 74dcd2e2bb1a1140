-- Loop invariants of `play_to` (src/worlds.rt).
use Rattle.std.proofs.Common.{◌≡◌}
use Rattle.mw_table_tests.specs.Reached.{IsReached}
use Rattle.mw_table_tests.proofs.worlds.play_to.Given as goal

abbrev pub invariant-loop : goal.invariant-loop
invariant-loop l = record { reached : IsReached l.world; config : l.world.config ≡ l.fn.world.config }
