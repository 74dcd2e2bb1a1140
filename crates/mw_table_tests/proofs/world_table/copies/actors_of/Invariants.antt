-- Loop invariants of `actors_of` (src/world_table/copies.rt).
use Rattle.std.proofs.Common.{◌≡◌, map, take}
use Rattle.mw_table_tests.specs.Worlds.{actor_of}
use Rattle.mw_table_tests.proofs.world_table.copies.actors_of.Given as goal

abbrev pub invariant-loop-worker_state : goal.invariant-loop-worker_state
invariant-loop-worker_state l = l.actors.items ≡ map actor_of (take l.worker_state-index l.worker_states)
