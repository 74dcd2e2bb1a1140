-- Loop invariants of `openings` (src/world/new_worlds.rt).
use Rattle.std.proofs.Common.{◌≡◌, length}
use Rattle.mw_world_file.specs.StartValues.{IsGiven}
use Rattle.mw_simulator.specs.Starts.{EachOf}
use Rattle.mw_simulator.proofs.world.new_worlds.openings.Given as goal

abbrev pub invariant-loop-tenant_state : goal.invariant-loop-tenant_state
invariant-loop-tenant_state l = record {
  count : length l.openings.items ≡ l.tenant_state-index;
  each : EachOf (λ tenant shown opening. IsGiven shown.book opening) l.tenant_states l.openings.items;
}
