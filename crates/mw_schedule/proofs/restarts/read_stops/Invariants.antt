-- Loop invariants of `read_stops` (src/restarts.rt).
use Rattle.std.proofs.Common.{length}
use Rattle.mw_world.specs.Definition.State.{tenants_of}
use Rattle.mw_schedule.specs.Playable.{AreStops}
use Rattle.mw_schedule.proofs.restarts.read_stops.Given as goal

-- each stop so far is of an existing tenant, and no two are of one
abbrev pub invariant-loop-rest : goal.invariant-loop-rest
invariant-loop-rest l = AreStops (tenants_of l.config) l.stops.items

abbrev pub decreases-loop-rest : goal.decreases-loop-rest
decreases-loop-rest l = length l.rest
