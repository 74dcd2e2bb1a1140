-- Loop invariants of `stop_of` (src/world/restarts.rt).
use Rattle.std.proofs.Common.{◌≡◌, drop}
use Rattle.mw_simulator.specs.Events as spec
use Rattle.mw_simulator.proofs.world.restarts.stop_of.Given as goal

abbrev pub invariant-loop-stop : goal.invariant-loop-stop
invariant-loop-stop l = spec.stop_of (drop l.stop-index l.stops) l.tenant ≡ spec.stop_of l.stops l.tenant
