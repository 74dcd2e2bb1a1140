-- States what stays while a call is under way that has found its change's status: the request, that status and the file.
-- Used by: src/call_laws.rt.
use Rattle.std.specs.Prelude.{ℕ, ◌≡◌, ◌++◌, true, List, Some}
use Rattle.mw_actor.specs.ActorState.{ActorState}
use Rattle.mw_world.specs.declared.config.Config.{Config}
use Rattle.mw_world.specs.Claim.Headline.{IsExecution}
use Rattle.mw_world.specs.Definition.Calls.{Called, starts_from}
use Rattle.mw_world.specs.Definition.Events.{WorldEvent}
use Rattle.mw_world.specs.Definition.State.{State, TenantStart}
use Rattle.mw_world.specs.Definition.World.{run, step}
use Rattle.mw_rule.specs.Calls.OtherEvents.{AreBesideFile, IsBesideFile, KeepsFile}
use Rattle.mw_rule.specs.Calls.CallStarts.{IsAtCall}

-- The worker has the same state, and so its request; the slot has the same status; and the tenant has the same file.
pub record HasWaited (old new : State) (worker tenant slot : ℕ) : Type 0 where
  pub worker_state : new.worker_states worker ≡ old.worker_states worker
  pub status : new.cells.statuses slot ≡ old.cells.statuses slot
  pub tenant_state : KeepsFile (old.tenant_states tenant) (new.tenant_states tenant)

-- After every run, a request at a call that starts from the status of its change can rely on this: each event but a
-- start and a call on the tenant's file leaves the request, that status and the file. So the worker itself makes no
-- step, because its next step is a call on this file.
abbrev pub StatusesWait : Type 0
StatusesWait = (config : Config) (openings : ℕ → TenantStart) (events : List WorldEvent) (state next : State) (worker : ℕ) (actor : ActorState) (called : Called) (event : WorldEvent)
    → IsExecution config openings events state → IsAtCall state worker actor called → starts_from called.call (state.cells.statuses called.change.slot) ≡ true
    → IsBesideFile state actor.tenant event → step config state event ≡ Some next → HasWaited state next worker actor.tenant called.change.slot

-- So do any number of such events, and a run leads to the world after them.
pub record HasWaitedLong (config : Config) (openings : ℕ → TenantStart) (events later : List WorldEvent) (state last : State) (worker : ℕ) (actor : ActorState) (called : Called) : Type 0 where
  pub played : IsExecution config openings (events ++ later) last
  pub waited : HasWaited state last worker actor.tenant called.change.slot
  pub at_call : IsAtCall last worker actor called
  pub starts : starts_from called.call (last.cells.statuses called.change.slot) ≡ true

-- After every run that is so, over any number of such events.
abbrev pub StatusesWaitLong : Type 0
StatusesWaitLong = (config : Config) (openings : ℕ → TenantStart) (events later : List WorldEvent) (state last : State) (worker : ℕ) (actor : ActorState) (called : Called)
    → IsExecution config openings events state → IsAtCall state worker actor called → starts_from called.call (state.cells.statuses called.change.slot) ≡ true
    → AreBesideFile config actor.tenant state later → run config state later ≡ Some last → HasWaitedLong config openings events later state last worker actor called
