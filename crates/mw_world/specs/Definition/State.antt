-- Defines the state of a world (shared words, workers, tenants, history), its configurations, and its states at a start.
-- Used by: src/laws.rt, many crates from mw_law_runs on.
use Rattle.std.specs.Prelude.{ℕ, zero, suc, ◌+◌, ◌≡◌, ◌≤◌, ◌<◌, All, sum_by, Bool, true, false, not, if◌then◌else◌, List, [], ◌++◌, length, replicate, slice_index_or, is_none, nat_le, ◌&&◌, IsTrue, Option, Some, None, Vec}
use Rattle.std.specs.declared.alloc.Global.{Global}
use Rattle.std.specs.Option.{option_to_list}
use Rattle.arrayvec.specs.ArrayVec.{ArrayVec}
use Rattle.std.specs.List.{flat_map}
use Rattle.mw_words.specs.declared.words.Word.TheVariants.{Plain}
use Rattle.mw_words.specs.declared.statuses.Status.TheVariants.{Draft}
use Rattle.mw_words.specs.declared.jobs.Entry.{Entry}
use Rattle.mw_words.specs.Change.{AreWords, is_change, put, word_at}
use Rattle.mw_words.specs.declared.limits.TheConstants.{MAX_POOL, MAX_QUOTA, MAX_TENANTS, MAX_WORDS, MAX_WORKERS, WORN_NUMBER}
use Rattle.mw_lone.specs.declared.marks.Mark.{Mark}
use Rattle.mw_lone.specs.Store.{Store, is_quota, new_store, store_after_start, run as run_of_store}
use Rattle.mw_actor.specs.ActorState.{ActorState}
use Rattle.mw_world.specs.declared.old_files.TheConstants.{OLD_ENTRIES, OLD_PLACES}
use Rattle.mw_world.specs.Files.State.{File, file_of}
use Rattle.mw_world.specs.Files.FirstPlaces.{first_places}
use Rattle.mw_world.specs.declared.config.Config.{Config}
use Rattle.mw_world.specs.declared.config.Tenant.{Tenant}
use Rattle.mw_world.specs.Definition.Cells.{Cells}
use Rattle.mw_world.specs.Definition.History.{History, no_history}

-- The state of a worker.
pub record WorkerState : Type 0 where
  -- its request, if it has one, and the request's number among its tenant's requests
  pub actor : Option ActorState
  pub request : ℕ
  -- the number of its next attempt
  pub attempt : ℕ
  -- For the history: the index of the place that it reserved last among its tenant's lines, and the request whose
  -- slot it freed last. At first that is its own request. This matters only if a round over the gates ends with WORN:
  -- then the worker lowers the door and has freed no slot.
  pub kept : ℕ
  pub retiring : ℕ

-- The state of a tenant without its shared words.
pub record TenantState : Type 0 where
  pub file : File
  -- its quota since the last start; and how many places for changes its file has, or will have once a start opens it.
  -- The tenant uses only as many of these places as its quota.
  pub quota : ℕ
  pub places : ℕ
  -- the number of its next request; numbers go on after a restart
  pub asked : ℕ
  -- For the history: whether its file opened at the last start; its marks up to that start, with the start's mark;
  -- and its lines since then. A line is a mark, or a reserved place that has no mark yet.
  pub is_up : Bool
  pub closed : List Mark
  pub lines : List (Option Mark)

-- The state of a world: the shared words, the workers, the tenants, and the history since the last start.
pub record State : Type 0 where
  pub cells : Cells
  pub worker_states : ℕ → WorkerState
  pub tenant_states : ℕ → TenantState
  pub history : History

-- a tenant that doesn't exist: it has no words and no slots
abbrev pub no_tenant : Tenant
no_tenant = record { name = record { items = [] }; words = 0; quota = 0; old = None }

-- the tenant of a number
abbrev pub tenant_at : Config → ℕ → Tenant
tenant_at config tenant = slice_index_or config.tenants.items tenant no_tenant

-- how many tenants a configuration has
abbrev pub tenants_of : Config → ℕ
tenants_of config = length config.tenants.items

-- the marks among these lines
abbrev pub marks_in : List (Option Mark) → List Mark
marks_in lines = flat_map option_to_list lines

-- all marks of a tenant so far
abbrev pub marks_of : State → ℕ → List Mark
marks_of state tenant = (state.tenant_states tenant).closed ++ marks_in (state.tenant_states tenant).lines

-- These entries may be the change whose record is open in an old file of a tenant with so many words: they are a
-- well-formed change, and at most OLD_ENTRIES.
abbrev pub is_old : ℕ → List Entry → Bool
is_old words entries = is_change words entries && nat_le (length entries) OLD_ENTRIES

-- A tenant with this quota may have this for its old change: none, or one that is_old allows, with a quota of at most
-- OLD_PLACES.
abbrev pub may_be_old : ℕ → ℕ → Option (ArrayVec Entry) → Bool
may_be_old words quota None = true
may_be_old words quota (Some change) = is_old words change.items && nat_le quota OLD_PLACES

-- A world may have this configuration: it has a tenant, a worker and a slot, and each number is within its limits.
-- Each old file's change is well formed, and the file has places for its tenant's quota. The pool has slots for all
-- quotas together.
pub record IsConfig (config : Config) : Type 0 where
  pub pool : (1 ≤ config.pool) × (config.pool ≤ MAX_POOL)
  pub workers : (1 ≤ config.workers) × (config.workers ≤ MAX_WORKERS)
  pub seq : config.seq < WORN_NUMBER
  pub tenants : (1 ≤ tenants_of config) × (tenants_of config ≤ MAX_TENANTS)
  pub words : All (λ tenant. (1 ≤ tenant.words) × (tenant.words ≤ MAX_WORDS)) config.tenants.items
  pub quotas : All (λ tenant. (1 ≤ tenant.quota) × (tenant.quota ≤ MAX_QUOTA)) config.tenants.items
  pub old : All (λ tenant. IsTrue (may_be_old tenant.words tenant.quota tenant.old)) config.tenants.items
  pub slots : sum_by (λ tenant. tenant.quota) config.tenants.items ≤ config.pool

-- an idle worker, whose next attempt is its first
abbrev pub idle_worker_state : WorkerState
idle_worker_state = record { actor = None; request = 0; attempt = 0; kept = 0; retiring = 0 }

-- The shared words at a start, given each tenant's words and whether its file opened. If it didn't, the tenant's
-- shared words are zeros, and its door has the fault.
abbrev pub first_cells : Config → (ℕ → List ℕ) → (ℕ → Bool) → Cells
first_cells config words is_up = record {
  doors = λ tenant. record { fault = not (is_up tenant); used = 0 };
  gates = λ slot. record { taken = false; pins = 0; seq = config.seq };
  rows = λ worker. record { slot = 0; entry = 0; seq = 0 };
  words = λ tenant address. Plain (if is_up tenant then word_at (words tenant) address else 0);
  statuses = λ slot. Draft;
  counts = λ slot. 0;
  addrs = λ slot entry. 0;
  expecteds = λ slot entry. 0;
  new_values = λ slot entry. 0;
}

-- the world with these tenant states at a start, with an empty history
abbrev pub started : Config → (ℕ → TenantState) → State
started config tenant_states = record {
  cells = first_cells config (λ tenant. (tenant_states tenant).file.contents) (λ tenant. (tenant_states tenant).is_up);
  worker_states = λ worker. idle_worker_state;
  tenant_states = tenant_states;
  history = no_history;
}

-- What a start gave a tenant: its quota, its file's places, its file's words, and whether the file opened. If it
-- didn't open, the places are any number from the quota up, and the words any words, as many as the tenant has.
-- Nobody learned them, and a later start may find them.
pub record TenantStart : Type 0 where
  pub quota : ℕ
  pub places : ℕ
  pub words : List ℕ
  pub is_up : Bool

-- the tenant state after that start: no request was asked, and the file is idle, or has failed at the opening
abbrev pub tenant_state_at : TenantStart → TenantState
tenant_state_at opening = record {
  file = record (file_of opening.words) { has_failed = not opening.is_up };
  quota = opening.quota;
  places = opening.places;
  asked = 0;
  is_up = opening.is_up;
  closed = [];
  lines = [];
}

-- the tenant's store alone after that start
abbrev pub store_at : TenantStart → Store
store_at opening = store_after_start (new_store opening.words opening.quota) opening.words opening.is_up opening.quota

-- the sum of the quotas of the first so many tenants
abbrev pub quotas_together : (ℕ → ℕ) → ℕ → ℕ
quotas_together quotas zero = 0
quotas_together quotas (suc tenant) = quotas_together quotas tenant + quotas tenant

-- Each quota is 1 to MAX_QUOTA, each tenant's file has at least as many places, and the quotas' sum is at most the
-- pool.
pub record QuotasFit (config : Config) (quotas places : ℕ → ℕ) : Type 0 where
  pub each : (tenant : ℕ) → tenant < tenants_of config → (1 ≤ quotas tenant) × (quotas tenant ≤ MAX_QUOTA)
  pub room : (tenant : ℕ) → tenant < tenants_of config → quotas tenant ≤ places tenant
  pub together : quotas_together quotas (tenants_of config) ≤ config.pool

-- tests the first so many tenants: each quota is 1 to MAX_QUOTA, and the tenant's file has at least as many places
abbrev pub each_fits : (ℕ → ℕ) → (ℕ → ℕ) → ℕ → Bool
each_fits quotas places zero = true
each_fits quotas places (suc tenant) = each_fits quotas places tenant && is_quota (quotas tenant) && nat_le (quotas tenant) (places tenant)

-- tests QuotasFit for all tenants
abbrev pub may_be_quotas : Config → (ℕ → ℕ) → (ℕ → ℕ) → Bool
may_be_quotas config quotas places = each_fits quotas places (tenants_of config) && nat_le (quotas_together quotas (tenants_of config)) config.pool

-- each tenant's present quota
abbrev pub quotas_of : State → ℕ → ℕ
quotas_of state tenant = (state.tenant_states tenant).quota

-- how many places each tenant's file has
abbrev pub places_of : State → ℕ → ℕ
places_of state tenant = (state.tenant_states tenant).places

-- A start of a server with this configuration may give this: the quotas fit, each tenant gets as many words as it
-- has, and each word is at most the greatest value.
pub record IsStart (config : Config) (openings : ℕ → TenantStart) : Type 0 where
  pub quotas : QuotasFit config (λ tenant. (openings tenant).quota) (λ tenant. (openings tenant).places)
  pub long : (tenant : ℕ) → tenant < tenants_of config → length (openings tenant).words ≡ (tenant_at config tenant).words
  pub words : (tenant : ℕ) → AreWords (openings tenant).words

-- the world at that start, which tells nothing of what happened before
abbrev pub world_at : Config → (ℕ → TenantStart) → State
world_at config openings = started config (λ tenant. tenant_state_at (openings tenant))

-- the tenant's store alone after its marks since that start; None: one of the marks is illegal
abbrev pub store_of : (ℕ → TenantStart) → State → ℕ → Option Store
store_of openings state tenant = run_of_store (store_at (openings tenant)) (marks_of state tenant)

-- the entries of the change in an old file; a new file has none
abbrev pub old_entries : Option (ArrayVec Entry) → List Entry
old_entries None = []
old_entries (Some change) = change.items

-- the words of a tenant's first file: zeros, with the change of an old file put over them
abbrev pub first_words_of : Tenant → List ℕ
first_words_of tenant = put (replicate tenant.words 0) (old_entries tenant.old)

-- The words that a tenant has after a start: those of its file, or zeros if the file did not open.
abbrev pub words_given : Tenant → Option (Vec ℕ Global) → List ℕ
words_given tenant (Some words) = words.items
words_given tenant None = replicate tenant.words 0

-- What the very first start gives a tenant: the quota of the configuration, and the places and words of its first
-- file. A new file opened. An old file didn't, and a later start opens it.
abbrev pub first_opening_of : Tenant → TenantStart
first_opening_of tenant = record { quota = tenant.quota; places = first_places tenant.quota; words = first_words_of tenant; is_up = is_none tenant.old }

-- the same, by each tenant's number
abbrev pub first_openings : Config → ℕ → TenantStart
first_openings config tenant = first_opening_of (tenant_at config tenant)

-- a new world
abbrev pub new_world : Config → State
new_world config = world_at config (first_openings config)
