-- Defines the reason that is told of a restart which can't be. Used by: src/restarts.rt.
use Rattle.std.specs.Prelude.{ℕ, ◌+◌, ◌==◌, ◌&&◌, nat_le, nat_lt, Bool, true, false, if◌then◌else◌, List, [], ◌∷◌, Option, Some, None}
use Rattle.std.specs.Option.{unwrap_or}
use Rattle.mw_words.specs.declared.limits.TheConstants.{MAX_QUOTA}
use Rattle.mw_actor.specs.ActorState.{ActorState}
use Rattle.mw_world.specs.declared.config.Config.{Config}
use Rattle.mw_world.specs.declared.events.Interrupted.{Interrupted}
use Rattle.mw_world.specs.declared.events.Stop.{Stop}
use Rattle.mw_world.specs.Definition.State.{State, quotas_together, tenants_of}
use Rattle.mw_simulator.specs.declared.world.World.{World}
use Rattle.mw_simulator.specs.Quotas.{places_in, quotas_in}
use Rattle.mw_schedule.specs.declared.steps.StepKind.TheVariants as kind
use Rattle.mwreplay.specs.declared.reasons.Position.{Position}
use Rattle.mwreplay.specs.declared.reasons.Position.TheVariants as position
use Rattle.mwreplay.specs.declared.reasons.Reason.{Reason}
use Rattle.mwreplay.specs.declared.reasons.Reason.TheVariants as reason
use Rattle.mwreplay.specs.Positions.{position_in}

-- The quota, if one is given, is one that the tenant may have: 1 to MAX_QUOTA, and at most the places of its file.
abbrev pub may_have : World → ℕ → Option ℕ → Bool
may_have world tenant None = true
may_have world tenant (Some quota) = nat_le 1 quota && nat_le quota MAX_QUOTA && nat_le quota (places_in world.tenant_states.items tenant)

-- the reason for the first item that gives a quota which its tenant may not have; items are counted from this one on
abbrev pub quota_reason : World → ℕ → List Stop → Option Reason
quota_reason world item [] = None
quota_reason world item (stop ∷ stops) = if may_have world stop.tenant stop.quota then quota_reason world (item + 1) stops else Some (reason.Quota item)

-- the sum of all tenants' quotas after the start
abbrev pub sum_after : World → List Stop → ℕ
sum_after world stops = quotas_together (quotas_in world.tenant_states.items stops) (tenants_of world.config)

-- a worker there is at a call on the file
abbrev pub is_at_call : Position → Bool
is_at_call position.Absent = false
is_at_call position.Idle = false
is_at_call position.Replied = false
is_at_call (position.At kind.Load) = false
is_at_call (position.At (kind.Change how)) = false
is_at_call (position.At (kind.File call)) = true

-- a worker with this request, or with none, serves this tenant
abbrev pub serves : ℕ → Option ActorState → Bool
serves tenant None = false
serves tenant (Some actor) = actor.tenant == tenant

-- the reason for an item by whose words this worker was at a call on this tenant's file; none if it was
abbrev pub worker_reason : Config → State → ℕ → ℕ → ℕ → Option Reason
worker_reason config state item tenant worker =
    if is_at_call (position_in config state worker)
    then (if serves tenant (state.worker_states worker).actor then None else Some (reason.OtherFile item worker))
    else Some (reason.NoCall item worker)

-- the same for an item that names a call, or none
abbrev pub item_reason : Config → State → ℕ → ℕ → Option Interrupted → Option Reason
item_reason config state item tenant None = None
item_reason config state item tenant (Some call) = worker_reason config state item tenant call.worker

-- the first of two reasons
abbrev pub first_of : Option Reason → Option Reason → Option Reason
first_of None other = other
first_of (Some why) other = Some why

-- the reason for the first item whose worker is not at a call on the tenant's file; items are counted from this one on
abbrev pub call_reason : Config → State → ℕ → List Stop → Option Reason
call_reason config state item [] = None
call_reason config state item (stop ∷ stops) = first_of (item_reason config state item stop.tenant stop.interrupted) (call_reason config state (item + 1) stops)

-- the reason that is told if the quotas are together above the pool
abbrev pub pool_reason : World → List Stop → Option Reason
pool_reason world stops = if nat_lt world.config.pool (sum_after world stops) then Some reason.Pool else None

-- The reason for a restart with these stops: a quota, the quotas together, a worker, else the numbers of device calls.
abbrev pub restart_reason : World → State → List Stop → Reason
restart_reason world state stops =
    unwrap_or (first_of (quota_reason world 1 stops) (first_of (pool_reason world stops) (call_reason world.config state 1 stops))) reason.FewCalls
