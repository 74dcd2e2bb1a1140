-- Loop invariants of `quota_told` (src/restarts.rt).
use Rattle.std.proofs.Common.{◌≡◌, drop}
use Rattle.mw_simulator.specs.Events.{stop_of}
use Rattle.mwreplay.proofs.restarts.quota_told.Given as goal

-- the stops that are left have the tenant's stop, if all have
abbrev pub invariant-loop-stop : goal.invariant-loop-stop
invariant-loop-stop l = stop_of (drop l.stop-index l.stops) l.tenant ≡ stop_of l.stops l.tenant
