-- Defines what a refused event leaves unchanged of a simulated world, and which tenants' files an event leaves unchanged.
-- Used by: src/world/calls.rt, src/world/events.rt, src/world/restarts.rt, src/world/turns.rt.
use Rattle.std.specs.Prelude.{ℕ, ◌≡◌, ◌≢◌, List, slice_get, Option, Some}
use Rattle.std.specs.Option.{option_and_then, option_map}
use Rattle.mw_lone.specs.declared.marks.Mark.{Mark}
use Rattle.mw_actor.specs.ActorState.{ActorState}
use Rattle.mw_world_file.specs.declared.simulated_file.SimulatedFile.{SimulatedFile}
use Rattle.mw_world.specs.declared.events.Event.{Event}
use Rattle.mw_world.specs.declared.events.Event.TheVariants.{Come as IsCome, Step as IsStep, File as IsFile, Hand as IsHand, Restart as IsRestart}
use Rattle.mw_world_memory.specs.declared.tenants.TenantState.{TenantState as TenantStateInMemory}
use Rattle.mw_simulator.specs.declared.world.World.{World}
use Rattle.mw_world_memory.specs.Claims.{SameClaims}

-- What a tenant in memory has, except for the room that its lists keep for further marks.
pub record TenantContents : Type 0 where
  pub book : SimulatedFile
  pub quota : ℕ
  pub asked : ℕ
  pub closed : List Mark
  pub lines : List (Option Mark)

-- what this tenant in memory has
abbrev pub kept_of : TenantStateInMemory → TenantContents
kept_of tenant_state = record { book = tenant_state.book; quota = tenant_state.quota; asked = tenant_state.asked; closed = tenant_state.lines.closed.items; lines = tenant_state.lines.lines.items }

-- the same of the tenant at an index of a list, if there is one
abbrev pub kept_at : List TenantStateInMemory → ℕ → Option TenantContents
kept_at tenant_states tenant = option_map kept_of (slice_get tenant_states tenant)

-- The world in memory is unchanged, except that its lists may keep more room for further marks and claims.
pub record IsUnchanged (old new : World) : Type 0 where
  pub config : new.config ≡ old.config
  pub cells : new.cells ≡ old.cells
  pub worker_states : new.worker_states ≡ old.worker_states
  pub claims : SameClaims old.claims new.claims
  pub tenants : (tenant : ℕ) → kept_at new.tenant_states.items tenant ≡ kept_at old.tenant_states.items tenant

-- a tenant's file in memory, with its disk, if the tenant exists
abbrev pub book_at : World → ℕ → Option SimulatedFile
book_at world tenant = option_map (λ tenant_state. tenant_state.book) (slice_get world.tenant_states.items tenant)

-- the request of a worker, if the worker exists and has one
abbrev pub actor_at : World → ℕ → Option ActorState
actor_at world worker = option_and_then (λ worker_state. worker_state.actor) (slice_get world.worker_states.items worker)

-- the tenant of a worker's request, if the worker has one
abbrev pub served_by : World → ℕ → Option ℕ
served_by world worker = option_map (λ actor. actor.tenant) (actor_at world worker)

-- Every tenant's file is unchanged.
abbrev pub SameBooks : World → World → Type 0
SameBooks old new = (tenant : ℕ) → book_at new tenant ≡ book_at old tenant

-- Every tenant's file but this one's is unchanged.
abbrev pub SameBooksBut : ℕ → World → World → Type 0
SameBooksBut served old new = (tenant : ℕ) → tenant ≢ served → book_at new tenant ≡ book_at old tenant

-- An event leaves all tenants' files unchanged, with two exceptions. A call on a file may change the file of the tenant
-- that the worker serves. A start may change each.
abbrev pub LeavesFiles : World → World → Event → Type 0
LeavesFiles old new (IsCome worker tenant job) = SameBooks old new
LeavesFiles old new (IsStep worker) = SameBooks old new
LeavesFiles old new (IsFile worker outcome) = (tenant : ℕ) → served_by old worker ≢ Some tenant → book_at new tenant ≡ book_at old tenant
LeavesFiles old new (IsHand worker) = SameBooks old new
LeavesFiles old new (IsRestart stops) = Unit {0}
