-- States which events add marks to a tenant's history: its own requests' events, and starts. Only calls on its own file add
-- marks of its failure.
-- Used by: src/laws.rt.
use Rattle.std.specs.Prelude.{ℕ, ◌+◌, ◌≡◌, ◌≢◌, ◌<◌, ◌==◌, ◌⊎◌, ◌++◌, Bool, true, false, List, [], ◌∷◌, filter, length, if◌then◌else◌, Option, Some, None}
use Rattle.std.specs.Option.{option_map, unwrap_or}
use Rattle.mw_lone.specs.declared.marks.Mark.{Mark}
use Rattle.mw_lone.specs.declared.marks.Mark.TheVariants.{SealFail, FileFail}
use Rattle.mw_actor.specs.ActorState.{ActorState}
use Rattle.mw_world.specs.declared.outcomes.Outcome.TheVariants.{Fail}
use Rattle.mw_world.specs.declared.config.Config.{Config}
use Rattle.mw_world.specs.Claim.Headline.{IsExecution}
use Rattle.mw_world.specs.Definition.Events.{WorldEvent, Come, Step, File, Hand, Restart}
use Rattle.mw_world.specs.Definition.LabelEffects.{more}
use Rattle.mw_world.specs.Definition.State.{State, TenantStart, marks_of, tenants_of, world_at}
use Rattle.mw_world.specs.Definition.World.{step}

-- The worker's request is one of this tenant.
abbrev pub IsRequestOf : ℕ → Option ActorState → Type 0
IsRequestOf tenant None = ⊥
IsRequestOf tenant (Some actor) = actor.tenant ≡ tenant

-- The event belongs to this tenant: its request comes; a worker makes a step or a file call of its request, or hands out its
-- reply; or all stops and starts, which belongs to each tenant.
abbrev pub IsEventOf : State → ℕ → WorldEvent → Type 0
IsEventOf state tenant (Come worker other job) = other ≡ tenant
IsEventOf state tenant (Step worker) = IsRequestOf tenant (state.worker_states worker).actor
IsEventOf state tenant (File worker outcome) = IsRequestOf tenant (state.worker_states worker).actor
IsEventOf state tenant (Hand worker) = IsRequestOf tenant (state.worker_states worker).actor
IsEventOf state tenant (Restart founds) = Unit {0}

-- Any other event leaves the tenant's state as it was, with its marks and its file.
abbrev pub MarksAreOwn : Type 0
MarksAreOwn = (config : Config) (state next : State) (event : WorldEvent) (tenant : ℕ) → step config state event ≡ Some next
    → (next.tenant_states tenant ≡ state.tenant_states tenant) ⊎ IsEventOf state tenant event

-- A device call that fails in a call on a neighbour's file leaves the tenant's marks as they were.
abbrev pub NeighboursFaultsLeaveNoMark : Type 0
NeighboursFaultsLeaveNoMark = (config : Config) (state next : State) (worker number tenant : ℕ) (actor : ActorState) → (state.worker_states worker).actor ≡ Some actor → actor.tenant ≢ tenant
    → step config state (File worker (Fail number)) ≡ Some next → marks_of next tenant ≡ marks_of state tenant

-- the mark tells that a device call failed in a call on the tenant's file
abbrev pub is_failure : Mark → Bool
is_failure (SealFail n) = true
is_failure FileFail = true
is_failure mark = false

-- those of a tenant's marks so far, in order
abbrev pub failures_of : State → ℕ → List Mark
failures_of state tenant = filter is_failure (marks_of state tenant)

-- the worker's request is one of this tenant
abbrev pub is_request_of : ℕ → Option ActorState → Bool
is_request_of tenant None = false
is_request_of tenant (Some actor) = actor.tenant == tenant

-- the event is a call on this tenant's file, by a request of it, in which a device call fails
abbrev pub is_failed_call : State → ℕ → WorldEvent → Bool
is_failed_call state tenant (File worker (Fail number)) = is_request_of tenant (state.worker_states worker).actor
is_failed_call state tenant event = false

-- One mark of a failure more, at the end of the tenant's lines.
pub record OneFails (state next : State) (tenant : ℕ) : Type 0 where
  pub mark : Mark
  pub tells : is_failure mark ≡ true
  pub at_end : (next.tenant_states tenant).lines ≡ more (state.tenant_states tenant).lines (Some mark)
  pub after : failures_of next tenant ≡ failures_of state tenant ++ mark ∷ []

-- There is one more after a failed call, and none after another event.
pub record FaultsGoOn (is_failed : Bool) (state next : State) (tenant : ℕ) : Type 0 where
  pub one_fails : is_failed ≡ true → OneFails state next tenant
  pub none_else : is_failed ≡ false → failures_of next tenant ≡ failures_of state tenant

-- In a run each failed call on a tenant's own file adds one mark of a failure. No other event adds one, not even a start.
abbrev pub FaultsAreOwn : Type 0
FaultsAreOwn = (config : Config) (openings : ℕ → TenantStart) (events : List WorldEvent) (state next : State) (event : WorldEvent) (tenant : ℕ) → IsExecution config openings events state
    → tenant < tenants_of config → step config state event ≡ Some next → FaultsGoOn (is_failed_call state tenant event) state next tenant

-- how many of these events are failed calls on this tenant's file
abbrev pub failed_calls : Config → ℕ → State → List WorldEvent → ℕ
failed_calls config tenant state [] = 0
failed_calls config tenant state (event ∷ events) =
    (if is_failed_call state tenant event then 1 else 0) + unwrap_or (option_map (λ next. failed_calls config tenant next events) (step config state event)) 0

-- After every run a tenant has as many marks of a failure as there were failed calls on its file.
abbrev pub FaultsAreCounted : Type 0
FaultsAreCounted = (config : Config) (openings : ℕ → TenantStart) (events : List WorldEvent) (state : State) (tenant : ℕ) → IsExecution config openings events state
    → tenant < tenants_of config → length (failures_of state tenant) ≡ failed_calls config tenant (world_at config openings) events
