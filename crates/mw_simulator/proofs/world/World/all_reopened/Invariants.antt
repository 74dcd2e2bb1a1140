-- The loop invariant of `World::all_reopened` (src/world/restarts.rt), which opens each tenant's file at a restart.
use Rattle.std.proofs.Common.{◌≡◌, length}
use Rattle.mw_simulator.specs.Stops.{AreReopening, EachHasRoom}
use Rattle.mw_world_memory.specs.TenantBooks.{AreSound}
use Rattle.mw_simulator.proofs.world.World.all_reopened.Given as goal

abbrev pub invariant-loop-tenant : goal.invariant-loop-tenant
invariant-loop-tenant l = record {
  count : length l.tenant_states.items ≡ l.tenant;
  each : AreReopening l.self l.stops l.tenant_states.items;
  lines : EachHasRoom l.self.tenant_states.items l.tenant_states.items;
  sound : AreSound l.self.config l.tenant_states.items;
}
