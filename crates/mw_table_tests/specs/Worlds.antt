-- Defines what a table (array of shared atomic words) begins with that is made of a simulated world.
-- Used by: src/race_tests.rt, src/world_table/copies.rt, src/world_table/from_world.rt.
use Rattle.std.specs.Prelude.{List, map, Option}
use Rattle.mw_actor.specs.ActorState.{ActorState}
use Rattle.mw_world.specs.Definition.Events.{WorldEvent}
use Rattle.mw_world_file.specs.Books.{places_of_file}
use Rattle.mw_simulator.specs.FromMemory.{TenantState, WorkerState, worker_state_of}
use Rattle.mw_simulator.specs.declared.world.World.{World}
use Rattle.mw_table.specs.Basis.{Basis}
use Rattle.mw_table.specs.Runs.{LastStart, basis_of_run}

-- what a table takes of a tenant's last start: its quota, its places, and its marks up to and including that start
abbrev pub last_start_of : TenantState → LastStart
last_start_of tenant_state = record { quota = tenant_state.quota; places = places_of_file tenant_state.book; closed = tenant_state.lines.closed.items }

-- a worker's request, if it has one
abbrev pub actor_of : WorkerState → Option ActorState
actor_of worker_state = worker_state.actor

-- What a table of the world begins with, if these events from a new world led to it. It gives no file pass.
abbrev pub basis_of_world : World → List WorldEvent → Basis
basis_of_world world before = basis_of_run world.config (map last_start_of world.tenant_states.items) (map worker_state_of world.worker_states.items) before
