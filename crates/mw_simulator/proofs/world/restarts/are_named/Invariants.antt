-- Loop invariants of `are_named` (src/world/restarts.rt).
use Rattle.std.proofs.Common.{◌≡◌, drop}
use Rattle.mw_simulator.specs.Events as spec
use Rattle.mw_simulator.proofs.world.restarts.are_named.Given as goal

abbrev pub invariant-loop-index : goal.invariant-loop-index
invariant-loop-index l = spec.are_named l.tenants (drop l.index l.stops) ≡ spec.are_named l.tenants l.stops
