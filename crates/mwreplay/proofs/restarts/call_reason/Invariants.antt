-- Loop invariants of `call_reason` (src/restarts.rt).
use Rattle.std.proofs.Common.{◌≡◌, ◌+◌, drop}
use Rattle.mw_world.specs.Definition.State.{State}
use Rattle.mw_simulator.specs.Representation.{Represents}
use Rattle.mwreplay.specs.RestartReasons as spec
use Rattle.mwreplay.proofs.restarts.call_reason.Given as goal

-- the items that are left have the reason of all
abbrev pub invariant-loop-index : goal.invariant-loop-index
invariant-loop-index l = (state : State) → Represents l.world state
    → spec.call_reason l.world.config state (l.index + 1) (drop l.index l.stops) ≡ spec.call_reason l.world.config state 1 l.stops
