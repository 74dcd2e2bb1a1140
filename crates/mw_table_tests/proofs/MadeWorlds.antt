-- A table (array of shared atomic words) that is made of a simulated world begins after the run that led to that world.
-- Used by: table_of, of_world.
use Rattle.std.specs.Prelude.{ℕ, zero, suc, ◌≡◌, ◌<◌, ◌≤◌, ◌⊎◌, List, [], ◌∷◌, length, map, slice_get, slice_index_or, Option, Some, None}
use Rattle.std.proofs.Common.{refl, sym, ap, subst, ◌∙◌, inl, inr, arith}
use Rattle.std.proofs.lemmas.List.{length-map}
use Rattle.std.proofs.lemmas.Option.{slice_get_cases}
use Rattle.mw_actor.specs.ActorState.{ActorState}
use Rattle.mw_world.specs.declared.config.Config.{Config}
use Rattle.mw_world.specs.Definition.Events.{WorldEvent}
use Rattle.mw_world.specs.Definition.State.{TenantState, WorkerState, State, idle_worker_state}
use Rattle.mw_rule.specs.Rule.{BitsMatch}
use Rattle.mw_simulator.specs.FromMemory.{TenantState as TenantStateInMemory, WorkerState as WorkerStateInMemory, worker_state_of}
use Rattle.mw_simulator.specs.declared.world.World.{World}
use Rattle.mw_simulator.specs.Events.{IsAfterRun}
use Rattle.mw_simulator.specs.Representation.{Represents}
use Rattle.mw_table.specs.NewPasses.{AreActors}
use Rattle.mw_table.specs.Runs.{AreAfterRun, IsToldOf, LastStart, basis_of_run}
use Rattle.mw_table_tests.specs.Worlds.{actor_of, basis_of_world, last_start_of}

some_worker_state : (one other : WorkerStateInMemory) → Some one ≡ Some other → one ≡ other
some_worker_state one other is = cc

-- an element of a list that is made of each worker
of_worker_state : {A : Type 0} → (made : WorkerStateInMemory → A) (worker_states : List WorkerStateInMemory) (worker : ℕ) (worker_state : WorkerStateInMemory) (other : A) → slice_get worker_states worker ≡ Some worker_state → slice_index_or (map made worker_states) worker other ≡ made worker_state
of_worker_state made [] worker worker_state other is = absurd (cc)
of_worker_state made (one ∷ worker_states) zero worker_state other is = ap made (some_worker_state one worker_state is)
of_worker_state made (one ∷ worker_states) (suc worker) worker_state other is = of_worker_state made worker_states worker worker_state other is

-- what is made of a worker in memory is made of the worker state that it represents
worker_state_made : {A : Type 0} → (kept : WorkerStateInMemory → A) (made : WorkerState → A) → ((worker_state : WorkerStateInMemory) → kept worker_state ≡ made (worker_state_of worker_state)) → (world : World) (state : State) (worker : ℕ) (other : A) → Represents world state
    → worker < world.config.workers → slice_index_or (map kept world.worker_states.items) worker other ≡ made (state.worker_states worker)
worker_state_made kept made same world state worker other shows low = by_worker_state (slice_get_cases world.worker_states.items worker).1
  where
    by_worker_state : ((worker_state : WorkerStateInMemory) × (worker < length world.worker_states.items) × (slice_get world.worker_states.items worker ≡ Some worker_state) × (slice_index_or world.worker_states.items worker worker_state ≡ worker_state))
        ⊎ ((length world.worker_states.items ≤ worker) × (slice_get world.worker_states.items worker ≡ None)) → slice_index_or (map kept world.worker_states.items) worker other ≡ made (state.worker_states worker)
    by_worker_state (inl there) = of_worker_state kept world.worker_states.items worker there.0 other there.2 ∙ (same there.0 ∙ ap made (shows.worker_states worker there.0 there.2))
    by_worker_state (inr past) = let many = world.workers in absurd (omega (arith, past.0, low, many))

-- a worker state that the table begins with is that of the world
pub worker_states_same : (world : World) (before : List WorldEvent) (state : State) (worker : ℕ) → Represents world state → worker < world.config.workers → (basis_of_world world before).worker_states worker ≡ state.worker_states worker
worker_states_same world before state worker shows low = worker_state_made worker_state_of (λ (worker_state : WorkerState). worker_state) (λ worker_state. refl) world state worker idle_worker_state shows low

-- the workers' requests are those of the world
pub actors_are : (world : World) (state : State) (actors : List (Option ActorState)) → actors ≡ map actor_of world.worker_states.items → Represents world state → AreActors state world.config.workers actors
actors_are world state actors is shows =
    subst (λ (some : List (Option ActorState)). AreActors state world.config.workers some) (sym is) (record {
      count = length-map world.worker_states.items actor_of ∙ world.workers;
      each = λ worker low. worker_state_made actor_of (λ (worker_state : WorkerState). worker_state.actor) (λ worker_state. refl) world state worker None shows low;
    })

some_last : (one other : LastStart) → Some one ≡ Some other → one ≡ other
some_last one other is = cc

-- what a tenant in memory says of its last start is true of the tenant state that it represents
told_so : (tenant_states : List TenantStateInMemory) (tenant : ℕ) (last : LastStart) (tenant_state : TenantState)
    → ((shown : TenantStateInMemory) → slice_get tenant_states tenant ≡ Some shown → IsToldOf tenant_state (last_start_of shown)) → slice_get (map last_start_of tenant_states) tenant ≡ Some last → IsToldOf tenant_state last
told_so [] tenant last tenant_state told is = absurd (cc)
told_so (one ∷ tenant_states) zero last tenant_state told is = subst (IsToldOf tenant_state) (some_last (last_start_of one) last is) (told one refl)
told_so (one ∷ tenant_states) (suc tenant) last tenant_state told is = told_so tenant_states tenant last tenant_state told is

-- the run that led to the world led to what the table begins with
pub after_run : (world : World) (before : List WorldEvent) (words : List ℕ) → IsAfterRun world before → ((state : State) → Represents world state → BitsMatch world.config state.cells words)
    → AreAfterRun world.config (map last_start_of world.tenant_states.items) (map worker_state_of world.worker_states.items) before words
after_run world before words stands ties =
    let state = stands.state in
    let shows = stands.shows in record {
      led = record {
        first = refl;
        happened = refl;
        state = state;
        runs = stands.runs;
        tenants = λ tenant last is.
            told_so world.tenant_states.items tenant last (state.tenant_states tenant) (λ shown here.
            let so = shows.tenant_states tenant shown here in record { quota = sym so.quota; places = sym so.file_places; closed = sym so.closed }) is;
        workers = λ worker low. worker_states_same world before state worker shows low;
      };
      ties = ties state shows;
    }

-- two lists of which the same is said, element by element, are equally long
pub as_many : {A B C : Type 0} → (said : A → C) (told : B → C) (copies : List A) (things : List B) → map said copies ≡ map told things → length copies ≡ length things
as_many said told copies things is = sym (length-map copies said) ∙ (ap length is ∙ length-map things told)

-- what a table begins with that is made of the world's configuration, tenants and workers
pub same_basis : (world : World) (before : List WorldEvent) (config : Config) (lasts : List LastStart) (worker_states : List WorkerState) → config ≡ world.config → lasts ≡ map last_start_of world.tenant_states.items
    → worker_states ≡ map worker_state_of world.worker_states.items → basis_of_run config lasts worker_states before ≡ basis_of_world world before
same_basis world before config lasts worker_states same_config same_lasts same_workers = λ i. basis_of_run (same_config i) (same_lasts i) (same_workers i) before
