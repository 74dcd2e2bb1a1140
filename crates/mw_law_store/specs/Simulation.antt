-- Defines that a store alone simulates a tenant's part of a world: by relaxed steps (`RelaxedSteps`) in every run, legally if
-- numbers are left.
-- Used by: mw_rule, mw_law_threads.
use Rattle.std.specs.Prelude.{ℕ, ◌≡◌, Some}
use Rattle.mw_lone.specs.Store.{Store, run as run_of_store}
use Rattle.mw_law_store.specs.Late.LateMarks.{IsNumbered}
use Rattle.mw_actor.specs.ActorState.{ActorState}
use Rattle.mw_world.specs.Definition.Events.{WorldEvent}
use Rattle.mw_world.specs.Definition.State.{State, TenantStart, marks_in, store_at}
use Rattle.mw_world.specs.Definition.World.{outgoing}
use Rattle.mw_law_store.specs.RelaxedSteps.{StoreLabel, lines_after, RelaxedLabelStep, LabelStep, given_out}
use Rattle.mw_law_store.specs.ReservedPlaces.{Reserved, LegalAt}
use Rattle.mw_law_store.specs.AbstractStates.{AbstractState, first_abstract_state, after_marks}
use Rattle.mw_law_store.specs.HistoryMatches.{HistoryMatch, MayBeLabeled}
use Rattle.mw_law_store.specs.Refinement.{Refines}
use Rattle.mw_law_store.specs.Worn.{NoneIsWorn}

-- the abstract state after the tenant's last start
abbrev pub start_of : (ℕ → TenantStart) → State → ℕ → AbstractState
start_of openings state tenant = after_marks (first_abstract_state (openings tenant).words) (state.tenant_states tenant).closed

-- This store simulates the tenant: the tenant's part of the world refines it, the lines match it, and the reserved places are
-- right. Nothing here needs numbers left.
pub record IsSimulatedBy (openings : ℕ → TenantStart) (state : State) (tenant : ℕ) (store : Store) : Type 0 where
  pub refines : Refines state tenant store
  pub history_match : HistoryMatch (start_of openings state tenant) (state.tenant_states tenant).lines store
  pub kept : Reserved state tenant (start_of openings state tenant)

-- Some store simulates the tenant.
pub record IsSimulated (openings : ℕ → TenantStart) (state : State) (tenant : ℕ) : Type 0 where
  pub store : Store
  pub simulated : IsSimulatedBy openings state tenant store

-- The store simulates an event that is not a start. There is a label that the event adds to the lines, and a store after it that
-- simulates the next world. The step between the stores is relaxed. If no request is on the way to WORN
-- (`NoneIsWorn`), it is legal, and the label hands out what the event does.
pub record SimulatesStep (openings : ℕ → TenantStart) (state next : State) (event : WorldEvent) (tenant : ℕ) (store : Store) : Type 0 where
  pub says : StoreLabel
  pub lines : (next.tenant_states tenant).lines ≡ lines_after says (state.tenant_states tenant).lines
  pub closed : (next.tenant_states tenant).closed ≡ (state.tenant_states tenant).closed
  pub may : MayBeLabeled (start_of openings state tenant) (state.tenant_states tenant).lines says store
  pub after : Store
  pub goes : RelaxedLabelStep says store after
  pub does : NoneIsWorn state → LabelStep says store after
  pub hands : NoneIsWorn state → given_out says store ≡ outgoing state tenant event
  pub simulated : IsSimulatedBy openings next tenant after

-- The tenant's marks are a legal run that leads to this store. Its lines are the part of it since the store of the last start.
-- Each place that a worker reserves there is for a mark that is legal at that place.
pub record IsLegalTo (openings : ℕ → TenantStart) (state : State) (tenant : ℕ) (store : Store) : Type 0 where
  pub base : Store
  pub closed : run_of_store (store_at (openings tenant)) (state.tenant_states tenant).closed ≡ Some base
  pub numbered : IsNumbered base
  pub lines : run_of_store base (marks_in (state.tenant_states tenant).lines) ≡ Some store
  pub kept : (worker : ℕ) (actor : ActorState) → (state.worker_states worker).actor ≡ Some actor → actor.tenant ≡ tenant
      → LegalAt state.history base (state.tenant_states tenant).lines (state.worker_states worker) actor actor.point
