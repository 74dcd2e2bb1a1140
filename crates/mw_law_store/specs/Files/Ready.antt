-- Defines when an event is ready, by simple conditions, and states that after a run exactly the ready events can happen.
-- Used by: src/file_laws.rt, mw_rule.
use Rattle.std.specs.Prelude.{ℕ, ◌≡◌, ◌<◌, true, false, List, length, Some, None}
use Rattle.mw_words.specs.declared.jobs.Job.{Job}
use Rattle.mw_words.specs.declared.replies.Reply.{Reply}
use Rattle.mw_words.specs.Change.{is_well_formed}
use Rattle.mw_actor.specs.ActorState.{ActorState}
use Rattle.mw_actor.specs.Program.{replied}
use Rattle.mw_world.specs.Files.State.{File}
use Rattle.mw_world.specs.declared.outcomes.Outcome.TheVariants.{Good, Fail}
use Rattle.mw_world.specs.declared.config.Config.{Config}
use Rattle.mw_world.specs.Claim.Headline.{IsExecution}
use Rattle.mw_world.specs.Definition.Calls.{Called, called_at, calls_made, fails_on, is_made, place_for, starts_from}
use Rattle.mw_world.specs.Definition.Events.{Found, WorldEvent, Come, Step, File as FileEvent, Hand, Restart}
use Rattle.mw_world.specs.Definition.Restarts.{may_all_be_found, quotas_then}
use Rattle.mw_world.specs.Definition.State.{State, TenantStart, QuotasFit, places_of, tenant_at, tenants_of}
use Rattle.mw_world.specs.Definition.World.{step}

-- A request may come: the worker and the tenant exist, the worker has no request, and the tenant may ask for this.
pub record MayCome (config : Config) (state : State) (worker tenant : ℕ) (job : Job) : Type 0 where
  pub worker_there : worker < config.workers
  pub tenant_there : tenant < tenants_of config
  pub idle : (state.worker_states worker).actor ≡ None
  pub formed : is_well_formed (tenant_at config tenant).words job ≡ true

-- A worker may make a step: its request has no reply, and has come to no call on its file.
pub record MayStep (state : State) (worker : ℕ) : Type 0 where
  pub actor : ActorState
  pub sits : (state.worker_states worker).actor ≡ Some actor
  pub unreplied : replied actor ≡ None
  pub calm : called_at actor.point ≡ None

-- A worker may make a call: its request has come to one.
pub record MayCall (state : State) (worker : ℕ) : Type 0 where
  pub actor : ActorState
  pub called : Called
  pub sits : (state.worker_states worker).actor ≡ Some actor
  pub at : called_at actor.point ≡ Some called

-- The call starts, the file hasn't failed, and the call makes the device call with this number, counted from 1.
pub record MakesCall (state : State) (actor : ActorState) (called : Called) (file : File) (places number : ℕ) : Type 0 where
  pub starts : starts_from called.call (state.cells.statuses called.change.slot) ≡ true
  pub works : fails_on called.call file ≡ false
  pub makes : is_made (calls_made called.call (state.cells.statuses called.change.slot) file (place_for called.call file places called.change.slot)) number ≡ true

-- This device call may fail: a worker's request has come to a call that makes it.
pub record MayFail (state : State) (worker number : ℕ) : Type 0 where
  pub called : MayCall state worker
  pub makes : MakesCall state called.actor called.called (state.tenant_states called.actor.tenant).file (state.tenant_states called.actor.tenant).quota number

-- A worker may hand out its reply: its request has one.
pub record MayHand (state : State) (worker : ℕ) : Type 0 where
  pub actor : ActorState
  pub reply : Reply
  pub sits : (state.worker_states worker).actor ≡ Some actor
  pub stands : replied actor ≡ Some reply

-- All may stop and start again: the start tells how it finds each tenant's file, each file may be found so, and the quotas that
-- the start gives fit.
pub record MayRestart (config : Config) (state : State) (founds : List Found) : Type 0 where
  pub each : length founds ≡ tenants_of config
  pub found : may_all_be_found config state founds (tenants_of config) ≡ true
  pub quotas : QuotasFit config (quotas_then state founds) (places_of state)

-- The event is ready.
abbrev pub IsReady : Config → State → WorldEvent → Type 0
IsReady config state (Come worker tenant job) = MayCome config state worker tenant job
IsReady config state (Step worker) = MayStep state worker
IsReady config state (FileEvent worker Good) = MayCall state worker
IsReady config state (FileEvent worker (Fail number)) = MayFail state worker number
IsReady config state (Hand worker) = MayHand state worker
IsReady config state (Restart founds) = MayRestart config state founds

-- The event can happen: there is a world after it.
pub record CanHappen (config : Config) (state : State) (event : WorldEvent) : Type 0 where
  pub next : State
  pub is : step config state event ≡ Some next

-- After every run each event that is ready can happen.
abbrev pub ReadyEventsHappen : Type 0
ReadyEventsHappen = (config : Config) (openings : ℕ → TenantStart) (events : List WorldEvent) (state : State) (event : WorldEvent) → IsExecution config openings events state
    → IsReady config state event → CanHappen config state event

-- In any world each event that can happen is ready.
abbrev pub OtherEventsDoNot : Type 0
OtherEventsDoNot = (config : Config) (state : State) (event : WorldEvent) → CanHappen config state event → IsReady config state event
