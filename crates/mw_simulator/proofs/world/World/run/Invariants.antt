-- Loop invariants of `World::run` (src/world/events.rt).
use Rattle.std.proofs.Common.{◌≡◌, List, take}
use Rattle.mw_world.specs.Definition.Events.{WorldEvent}
use Rattle.mw_simulator.specs.Events.{AllStep, GoesOn, IsAfterRun}
use Rattle.mw_simulator.proofs.world.World.run.Given as goal

abbrev pub invariant-loop-index : goal.invariant-loop-index
invariant-loop-index l = record {
  same : l.self.config ≡ l.fn.self.config;
  steps : AllStep l.fn.self (take l.index l.events) l.self;
  goes : (happened : List WorldEvent) → IsAfterRun l.fn.self happened → GoesOn l.self happened (take l.index l.events);
}
