-- Defines that no change of a request is in its tenant's file, from each reply on that tells of no change.
-- Used by: src/whole_laws.rt.
use Rattle.std.specs.Prelude.{ℕ, ◌≡◌, ◌≢◌, ◌<◌, ◌⊎◌, List, [], slice_get, Some}
use Rattle.mw_words.specs.declared.replies.Reply.{Reply}
use Rattle.mw_words.specs.declared.replies.Reply.TheVariants.{Val, No as SaysNo, Busy as SaysBusy}
use Rattle.mw_world.specs.declared.config.Config.{Config}
use Rattle.mw_world.specs.Claim.Headline.{IsExecution}
use Rattle.mw_world.specs.Definition.Events.{WorldEvent}
use Rattle.mw_world.specs.Definition.State.{State, TenantStart, tenants_of, world_at}
use Rattle.mw_world.specs.Definition.World.{replies_to}
use Rattle.mw_law_threads.specs.Whole.WholeChanges.{IsPending, IsUnsealed}

-- The reply tells that the request makes no change: VAL, NO or BUSY.
abbrev pub TellsOfNoChange : Reply → Type 0
TellsOfNoChange (Val value) = Unit {0}
TellsOfNoChange (SaysNo address value) = Unit {0}
TellsOfNoChange SaysBusy = Unit {0}
TellsOfNoChange reply = ⊥

-- No change of this request was sealed since the latest start. The change in doubt, if there is one, is another request's.
pub record MakesNoChange (openings : ℕ → TenantStart) (state : State) (tenant request : ℕ) : Type 0 where
  pub unsealed : IsUnsealed openings state tenant request
  pub not_in_doubt : ((state.tenant_states tenant).file.doubt ≡ []) ⊎ ((owner : ℕ) × IsPending openings state tenant owner (state.tenant_states tenant).file.doubt × (owner ≢ request))

-- After every run that has handed out such a reply to a request, at whatever moment, the request has made no change.
abbrev pub RefusedRequestsMakeNoChange : Type 0
RefusedRequestsMakeNoChange = (config : Config) (openings : ℕ → TenantStart) (events : List WorldEvent) (state : State) (tenant index request : ℕ) (reply : Reply) → IsExecution config openings events state
    → tenant < tenants_of config → slice_get (replies_to config tenant (world_at config openings) events) index ≡ Some (request, reply) → TellsOfNoChange reply → MakesNoChange openings state tenant request
