-- Loop invariants of `quota_reason` (src/restarts.rt).
use Rattle.std.proofs.Common.{◌≡◌, ◌+◌, drop}
use Rattle.mwreplay.specs.RestartReasons as spec
use Rattle.mwreplay.proofs.restarts.quota_reason.Given as goal

-- the items that are left have the reason of all
abbrev pub invariant-loop-index : goal.invariant-loop-index
invariant-loop-index l = spec.quota_reason l.world (l.index + 1) (drop l.index l.stops) ≡ spec.quota_reason l.world 1 l.stops
