-- The statements that this crate proves of counts: starts, events and runs keep them, and the pool has room.
-- Used by: src/count_laws.rt.
use Rattle.std.specs.Prelude.{ℕ, ◌≡◌, ◌≤◌, List, ◌++◌, Some}
use Rattle.mw_world.specs.declared.config.Config.{Config}
use Rattle.mw_actor.specs.ActorState.{ActorState}
use Rattle.mw_world.specs.Definition.Counts.{waits_at, taken_slots, used_slots}
use Rattle.mw_world.specs.Claim.Headline.{IsExecution, FreeSlot}
use Rattle.mw_world.specs.Definition.Events.{WorldEvent}
use Rattle.mw_world.specs.Definition.State.{State, IsStart, TenantStart, tenants_of, world_at}
use Rattle.mw_world.specs.Definition.World.{step, run}
use Rattle.mw_law_runs.specs.Counts.CountInvariant.{CountsStand, CountsRestOn}

-- The invariant of counts holds at every start.
abbrev pub StartsStand : Type 0
StartsStand = (config : Config) (openings : ℕ → TenantStart) → IsStart config openings → CountsStand config (world_at config openings)

-- Every event keeps the invariant of counts, if `CountsRestOn` holds before it.
abbrev pub EventsKeepCounts : Type 0
EventsKeepCounts = (config : Config) (state : State) (event : WorldEvent) (next : State) → CountsStand config state → CountsRestOn state
    → step config state event ≡ Some next → CountsStand config next

-- `CountsRestOn` holds at every moment of a run from a start on, including its end.
abbrev pub RestsAllAlong : Config → (ℕ → TenantStart) → List WorldEvent → Type 0
RestsAllAlong config openings events = (first rest : List WorldEvent) (between : State) → events ≡ first ++ rest → run config (world_at config openings) first ≡ Some between
    → CountsRestOn between

-- The invariant of counts holds after every such run.
abbrev pub RunsKeepCounts : Type 0
RunsKeepCounts = (config : Config) (openings : ℕ → TenantStart) (events : List WorldEvent) (state : State) → RestsAllAlong config openings events
    → IsExecution config openings events state → CountsStand config state

-- There is room in the pool. No more slots are taken than the doors count. While a tenant's door counts a slot that a request hasn't taken yet, or
-- has already freed, some slot of the pool isn't taken.
pub record HasRoom (config : Config) (state : State) : Type 0 where
  pub room : taken_slots state config.pool ≤ used_slots state (tenants_of config)
  pub free : (worker : ℕ) (actor : ActorState) → (state.worker_states worker).actor ≡ Some actor → waits_at actor.point ≡ 1 → FreeSlot config state

-- There is room in the pool after every such run.
abbrev pub RunsLeaveRoom : Type 0
RunsLeaveRoom = (config : Config) (openings : ℕ → TenantStart) (events : List WorldEvent) (state : State) → RestsAllAlong config openings events
    → IsExecution config openings events state → HasRoom config state
