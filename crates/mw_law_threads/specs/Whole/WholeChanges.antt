-- Defines what a request asked for, and when a change in a tenant's file is just that. Used by: src/whole_laws.rt.
use Rattle.std.specs.Prelude.{ℕ, ◌≡◌, ◌≢◌, ◌<◌, ◌⊎◌, true, List, [], slice_get, Option, Some}
use Rattle.mw_words.specs.declared.jobs.Entry.{Entry}
use Rattle.mw_words.specs.declared.jobs.Job.{Job}
use Rattle.mw_words.specs.Change.{fits}
use Rattle.mw_lone.specs.declared.marks.Mark.{Mark}
use Rattle.mw_lone.specs.declared.marks.Mark.TheVariants.{Ask}
use Rattle.mw_lone.specs.Store.{entries_of}
use Rattle.mw_world.specs.Files.State.{entries_at, is_prepared}
use Rattle.mw_world.specs.declared.config.Config.{Config}
use Rattle.mw_world.specs.Claim.Headline.{IsExecution}
use Rattle.mw_world.specs.Claim.Invariant.{IsInFile}
use Rattle.mw_world.specs.Definition.Events.{WorldEvent, Come}
use Rattle.mw_world.specs.Definition.State.{State, TenantStart, tenants_of}
use Rattle.mw_world.specs.Definition.World.{run, step}
use Rattle.mw_law_store.specs.AbstractStates.{SealedChange}
use Rattle.mw_law_store.specs.History.{AreNoStarts}
use Rattle.mw_law_store.specs.ReplyPlaces.{sealed_of}

-- On a line of this history a request came, under this number, with a job that has just these entries.
pub record IsAskedIn (lines : List (Option Mark)) (request : ℕ) (entries : List Entry) : Type 0 where
  pub line : ℕ
  pub job : Job
  pub came : slice_get lines line ≡ Some (Some (Ask request job))
  pub its : entries ≡ entries_of job

-- Since the latest start, this request of the tenant asked for a change with just these entries.
abbrev pub IsAskedFor : State → ℕ → ℕ → List Entry → Type 0
IsAskedFor state tenant request entries = IsAskedIn (state.tenant_states tenant).lines request entries

-- There is no change, or it is just what one request of the tenant asked for since the latest start.
abbrev pub IsAskedChange : State → ℕ → List Entry → Type 0
IsAskedChange state tenant entries = (entries ≡ []) ⊎ ((owner : ℕ) × IsAskedFor state tenant owner entries)

-- No change of this request is sealed since the latest start.
abbrev pub IsUnsealed : (ℕ → TenantStart) → State → ℕ → ℕ → Type 0
IsUnsealed openings state tenant request = (place : ℕ) (one : SealedChange) → slice_get (sealed_of openings state tenant) place ≡ Some one → one.request ≢ request

-- This request of the tenant asked for a change with just these entries, and no change of it is sealed.
pub record IsPending (openings : ℕ → TenantStart) (state : State) (tenant request : ℕ) (entries : List Entry) : Type 0 where
  pub asked : IsAskedFor state tenant request entries
  pub unsealed : IsUnsealed openings state tenant request

-- There is no change, or it is just what one request asked for of which no change is sealed: its owner.
abbrev pub IsWholeChange : (ℕ → TenantStart) → State → ℕ → List Entry → Type 0
IsWholeChange openings state tenant entries = (entries ≡ []) ⊎ ((owner : ℕ) × IsPending openings state tenant owner entries)

-- The change in this place of the tenant's file is that of the request which claimed the slot whose place it is: just what this
-- request asked for. If it is prepared, no change of the request is sealed.
pub record IsOfOwner (openings : ℕ → TenantStart) (state : State) (tenant place : ℕ) : Type 0 where
  pub slot : ℕ
  pub in_file : IsInFile state tenant slot
  pub is_place : (state.tenant_states tenant).file.place_of slot ≡ place
  pub asked : IsAskedFor state tenant (state.history.request slot (state.cells.gates slot).seq) (entries_at (state.tenant_states tenant).file place)
  pub unsealed : is_prepared ((state.tenant_states tenant).file.places place) ≡ true → IsUnsealed openings state tenant (state.history.request slot (state.cells.gates slot).seq)

-- After every run, each place of a tenant's file has no change or its owner's.
abbrev pub PlacesHoldWholeChanges : Type 0
PlacesHoldWholeChanges = (config : Config) (openings : ℕ → TenantStart) (events : List WorldEvent) (state : State) (tenant place : ℕ) → IsExecution config openings events state → tenant < tenants_of config
    → (entries_at (state.tenant_states tenant).file place ≡ []) ⊎ IsOfOwner openings state tenant place

-- After every run, there is no change in doubt, or it is a whole one, which fits the words of the file.
abbrev pub DoubtIsWhole : Type 0
DoubtIsWhole = (config : Config) (openings : ℕ → TenantStart) (events : List WorldEvent) (state : State) (tenant : ℕ) → IsExecution config openings events state → tenant < tenants_of config
    → IsWholeChange openings state tenant (state.tenant_states tenant).file.doubt × (fits (state.tenant_states tenant).file.contents (state.tenant_states tenant).file.doubt ≡ true)

-- After every run, each change that was sealed since the latest start is just what its request asked for.
abbrev pub SealedChangesAreWhole : Type 0
SealedChangesAreWhole = (config : Config) (openings : ℕ → TenantStart) (events : List WorldEvent) (state : State) (tenant : ℕ) → IsExecution config openings events state → tenant < tenants_of config
    → (place : ℕ) (one : SealedChange) → slice_get (sealed_of openings state tenant) place ≡ Some one → IsAskedFor state tenant one.request one.entries

-- After every run, whatever a request asked for under one number is one change.
abbrev pub RequestsAskForOneChange : Type 0
RequestsAskForOneChange = (config : Config) (openings : ℕ → TenantStart) (events : List WorldEvent) (state : State) (tenant request : ℕ) (entries others : List Entry) → IsExecution config openings events state → tenant < tenants_of config
    → IsAskedFor state tenant request entries → IsAskedFor state tenant request others → entries ≡ others

-- A request comes, and events follow that are not starts. Then the request has asked, under the number that was the tenant's next
-- one, for just the change of its job.
abbrev pub RequestsStayAsked : Type 0
RequestsStayAsked = (config : Config) (openings : ℕ → TenantStart) (events later : List WorldEvent) (state between last : State) (worker tenant : ℕ) (job : Job) → IsExecution config openings events state
    → tenant < tenants_of config → step config state (Come worker tenant job) ≡ Some between → AreNoStarts later → run config between later ≡ Some last → IsAskedFor last tenant (state.tenant_states tenant).asked (entries_of job)
