-- Defines what a table begins with that is made after a run from a new world. Used by: src/after_run.rt, mw_table_tests.
use Rattle.std.specs.Prelude.{ℕ, ◌≡◌, ◌<◌, ◌+◌, Bool, List, [], ◌∷◌, slice_get, slice_index_or, Some}
use Rattle.mw_lone.specs.declared.marks.Mark.{Mark}
use Rattle.mw_lone.specs.declared.marks.Mark.TheVariants.{Restart}
use Rattle.mw_world.specs.declared.config.Config.{Config}
use Rattle.mw_world.specs.Definition.Events.{WorldEvent}
use Rattle.mw_world.specs.Definition.State.{TenantState, TenantStart, WorkerState, State, first_openings, idle_worker_state, new_world}
use Rattle.mw_world.specs.Definition.World.{run}
use Rattle.mw_rule.specs.KnownRuns.{known_run_of}
use Rattle.mw_rule.specs.FromLaws.{after_marks, first_abstract_state}
use Rattle.mw_rule.specs.Rule.{BitsMatch}
use Rattle.mw_table.specs.declared.origin.TenantSoFar.{TenantSoFar}
use Rattle.mw_table.specs.declared.origin.WorkerSoFar.{WorkerSoFar}
use Rattle.mw_table.specs.Basis.{Basis}

-- What is given of a tenant's last start: its quota since then, the places of its file, and its marks up to
-- and including that start.
pub record LastStart : Type 0 where
  pub quota : ℕ
  pub places : ℕ
  pub closed : List Mark

-- the same, from what a tenant is after a run
abbrev pub last_start : TenantSoFar → LastStart
last_start tenant = record { quota = tenant.quota; places = tenant.places; closed = tenant.closed.items }

-- the worker's state, from what a worker is after a run
abbrev pub worker_state_so_far : WorkerSoFar → WorkerState
worker_state_so_far worker = record { actor = worker.actor; request = worker.request; attempt = worker.attempt; kept = worker.kept; retiring = worker.retiring }

-- whether a tenant's file opened at the last start among these marks; if there is none, whether it was open before
abbrev pub up_after : Bool → List Mark → Bool
up_after is_up [] = is_up
up_after is_up (Restart interrupted found opened quota ∷ marks) = up_after opened marks
up_after is_up (mark ∷ marks) = up_after is_up marks

-- What the last start gave a tenant to which the first start gave this. The quota and the places are given; the
-- tenant's marks tell its words and whether its file opened.
abbrev pub opening_after : TenantStart → LastStart → TenantStart
opening_after first last = record {
  quota = last.quota;
  places = last.places;
  words = (after_marks (first_abstract_state first.words) last.closed).words;
  is_up = up_after first.is_up last.closed;
}

-- what the last start gave each of these tenants, from this number on
abbrev pub openings_from : Config → ℕ → List LastStart → List TenantStart
openings_from config tenant [] = []
openings_from config tenant (last ∷ lasts) = opening_after (first_openings config tenant) last ∷ openings_from config (tenant + 1) lasts

-- a worker's state; past the last worker, an idle one
abbrev pub worker_state_at : List WorkerState → ℕ → WorkerState
worker_state_at worker_states worker = slice_index_or worker_states worker idle_worker_state

-- What a table begins with after these events from a new world, which led to these tenants and workers. These events are
-- known as the run before the table, and none has happened since. It has no files.
abbrev pub basis_of_run : Config → List LastStart → List WorkerState → List WorldEvent → Basis
basis_of_run config lasts worker_states before = record {
  config = config;
  openings = openings_from config 0 lasts;
  known_run = known_run_of config (first_openings config) before [];
  worker_states = worker_state_at worker_states;
  files = [];
}

-- What is given of a tenant's last start is true of this tenant's state.
pub record IsToldOf (tenant_state : TenantState) (last : LastStart) : Type 0 where
  pub quota : tenant_state.quota ≡ last.quota
  pub places : tenant_state.places ≡ last.places
  pub closed : tenant_state.closed ≡ last.closed

-- The first start is a new world's, and what happened before the table was made are the given events. From there they
-- lead to a world with these workers, and with tenants of whose last starts this is true.
pub record LedTo (config : Config) (lasts : List LastStart) (worker_states : List WorkerState) (given : List WorldEvent) (openings : ℕ → TenantStart) (before : List WorldEvent) : Type 0 where
  pub first : openings ≡ first_openings config
  pub happened : before ≡ given
  pub state : State
  pub runs : run config (new_world config) before ≡ Some state
  pub tenants : (tenant : ℕ) (last : LastStart) → slice_get lasts tenant ≡ Some last → IsToldOf (state.tenant_states tenant) last
  pub workers : (worker : ℕ) → worker < config.workers → worker_state_at worker_states worker ≡ state.worker_states worker

-- These events from a new world lead to a world with these tenants, these workers and these shared words, each at its index.
pub record AreAfterRun (config : Config) (lasts : List LastStart) (worker_states : List WorkerState) (before : List WorldEvent) (words : List ℕ) : Type 0 where
  pub led : LedTo config lasts worker_states before (first_openings config) before
  pub ties : BitsMatch config led.state.cells words
