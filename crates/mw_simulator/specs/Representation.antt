-- Defines which world of the definition (mw_world) a simulated world represents.
-- Used by: src/world/calls.rt, src/world/events.rt, src/world/restarts.rt, src/world/stopped_calls.rt, src/world/turns.rt,
-- mwreplay, mw_table_tests.
use Rattle.std.specs.Prelude.{ℕ, ◌≡◌, ◌<◌, ◌≤◌, length, slice_get, Option, Some, None, Result, Ok, Err}
use Rattle.mw_actor.specs.ActorState.{ActorState}
use Rattle.mw_world_file.specs.Books.{Represents as ShowsFile, places_of_file, quota_of}
use Rattle.mw_world.specs.Definition.State.{State, TenantState, tenant_at, tenants_of}
use Rattle.mw_world.specs.Definition.Cells.{AllFit}
use Rattle.mw_world_memory.specs.declared.tenants.TenantState.{TenantState as TenantStateInMemory}
use Rattle.mw_simulator.specs.declared.faults.TheConstants.{MOST_REQUESTS}
use Rattle.mw_simulator.specs.declared.faults.WorldFault.{WorldFault}
use Rattle.mw_simulator.specs.declared.faults.WorldFault.TheVariants.{NotEnabled, LastNumber, Memory}
use Rattle.mw_world_memory.specs.declared.workers.WorkerState.{WorkerState as WorkerStateInMemory}
use Rattle.mw_simulator.specs.declared.world.World.{World}
use Rattle.mw_world_memory.specs.Claims.{Recalls}
use Rattle.mw_world_memory.specs.Workers.{worker_state_of}
use Rattle.mw_world_memory.specs.BitsMatch.{BitsMatch}

-- A tenant in memory, with `words` words, represents this tenant state. Memory doesn't keep whether the tenant's file
-- opened at the last start: only the run tells.
pub record RepresentsTenant (words : ℕ) (shown : TenantStateInMemory) (tenant_state : TenantState) : Type 0 where
  pub book : ShowsFile shown.book tenant_state.file
  pub quota : shown.quota ≡ tenant_state.quota
  pub places : quota_of shown.book ≡ tenant_state.quota
  pub file_places : places_of_file shown.book ≡ tenant_state.places
  pub words_are : length shown.book.contents.items ≡ words
  pub asked : shown.asked ≡ tenant_state.asked
  pub closed : shown.lines.closed.items ≡ tenant_state.closed
  pub lines : shown.lines.lines.items ≡ tenant_state.lines

-- A world in memory represents this world: its shared words in bits, its workers and tenants, and what it knows of the
-- claims.
pub record Represents (world : World) (state : State) : Type 0 where
  pub tied : BitsMatch world.cells state.cells
  pub fit : AllFit state.cells
  pub worker_states : (worker : ℕ) (worker_state : WorkerStateInMemory) → slice_get world.worker_states.items worker ≡ Some worker_state → worker_state_of worker_state ≡ state.worker_states worker
  pub idle : (worker : ℕ) → world.config.workers ≤ worker → (state.worker_states worker).actor ≡ None
  pub homes : (worker : ℕ) (actor : ActorState) → (state.worker_states worker).actor ≡ Some actor → actor.tenant < tenants_of world.config
  pub claims : Recalls world.claims state.history
  pub tenant_states : (tenant : ℕ) (shown : TenantStateInMemory) → slice_get world.tenant_states.items tenant ≡ Some shown
      → RepresentsTenant (tenant_at world.config tenant).words shown (state.tenant_states tenant)

-- An event can happen, and the world in memory after it represents the world after it.
pub record Leads (after : Option State) (new : World) : Type 0 where
  pub state : State
  pub is : after ≡ Some state
  pub shows : Represents new state

-- How an event ends that is no request, for each result. If it succeeds, the world in memory represents what the event
-- makes of the world. After an error it represents the same world as before. If the error isn't that memory is out, the
-- event can't happen.
abbrev pub Ends : World → State → Option State → Result (Unit {0}) WorldFault → Type 0
Ends new before after (Ok x) = Leads after new
Ends new before after (Err NotEnabled) = (after ≡ None) × Represents new before
Ends new before after (Err LastNumber) = ⊥
Ends new before after (Err Memory) = Represents new before

-- A request can come, and its number would be `MOST_REQUESTS`, the first number that a world in memory doesn't give.
pub record IsLast (before : State) (tenant : ℕ) (after : Option State) : Type 0 where
  pub next : State
  pub can : after ≡ Some next
  pub number : (before.tenant_states tenant).asked ≡ MOST_REQUESTS

-- the number of a tenant's next request is one that a world in memory gives
abbrev pub IsNumbered : State → ℕ → Type 0
IsNumbered before tenant = (before.tenant_states tenant).asked < MOST_REQUESTS

-- How the coming of a request ends, for each result. It is as for other events, with one case more: a request that can
-- come is refused with `LastNumber` if, and only if, its number would be `MOST_REQUESTS`.
abbrev pub Comes : World → State → ℕ → Option State → Result (Unit {0}) WorldFault → Type 0
Comes new before tenant after (Ok x) = IsNumbered before tenant × Leads after new
Comes new before tenant after (Err NotEnabled) = (after ≡ None) × Represents new before
Comes new before tenant after (Err LastNumber) = IsLast before tenant after × Represents new before
Comes new before tenant after (Err Memory) = IsNumbered before tenant × Represents new before
