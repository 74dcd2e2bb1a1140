-- Defines which schedules (texts of what happens to a world) can be played: the limits of their worlds, workers, tenants and
-- stops.
-- Used by: src/commands.rt, src/config.rt, src/olds.rt, src/reader.rt, src/restarts.rt, mwreplay.
use Rattle.std.specs.Prelude.{ℕ, ◌≡◌, ◌≢◌, ◌≤◌, ◌<◌, All, IfSome, IsTrue, List, None, Option, sum_by}
use Rattle.std.specs.List.{AllPairs}
use Rattle.mw_words.specs.declared.limits.TheConstants.{MAX_QUOTA, MAX_WORDS, MAX_WORKERS}
use Rattle.mw_words.specs.Change.{is_well_formed}
use Rattle.mw_words.specs.Name.{is_name}
use Rattle.mw_world.specs.declared.config.Config.{Config}
use Rattle.mw_world.specs.declared.config.Tenant.{Tenant}
use Rattle.mw_world.specs.declared.events.Interrupted.{Interrupted}
use Rattle.mw_world.specs.declared.events.Stop.{Stop}
use Rattle.mw_world.specs.Definition.State.{IsConfig, may_be_old, tenant_at, tenants_of}
use Rattle.mw_schedule.specs.declared.schedule.Command.{Command}
use Rattle.mw_schedule.specs.declared.schedule.Command.TheVariants.{Come, Step, File, Before, To, End, Restart}
use Rattle.mw_schedule.specs.declared.schedule.Schedule.{Schedule}
use Rattle.mw_schedule.specs.declared.schedule.ScheduleLine.{ScheduleLine}

-- no tenant has this name
abbrev pub IsFree : List ℕ → List Tenant → Type 0
IsFree name tenants = All (λ tenant. tenant.name.items ≢ name) tenants

-- The tenant is within its limits. It has a name that none of the earlier ones has, a quota of at most `free`, and a
-- new file.
pub record IsNext (earlier : List Tenant) (free : ℕ) (tenant : Tenant) : Type 0 where
  pub named : IsTrue (is_name tenant.name.items)
  pub new : IsFree tenant.name.items earlier
  pub words : (1 ≤ tenant.words) × (tenant.words ≤ MAX_WORDS)
  pub quota : (1 ≤ tenant.quota) × (tenant.quota ≤ MAX_QUOTA)
  pub slots : tenant.quota ≤ free
  pub fresh : tenant.old ≡ None

-- each tenant has a name, and no two have the same
pub record AreNamed (tenants : List Tenant) : Type 0 where
  pub named : All (λ tenant. IsTrue (is_name tenant.name.items)) tenants
  pub once : AllPairs (λ earlier later. earlier.name.items ≢ later.name.items) tenants

-- The tenants have different names and are within their limits. The change in an old file is well formed, and the file
-- has places for the quota. The sum of the quotas is at most the pool.
pub record AreTenants (pool : ℕ) (tenants : List Tenant) : Type 0 where
  pub names : AreNamed tenants
  pub words : All (λ tenant. (1 ≤ tenant.words) × (tenant.words ≤ MAX_WORDS)) tenants
  pub quotas : All (λ tenant. (1 ≤ tenant.quota) × (tenant.quota ≤ MAX_QUOTA)) tenants
  pub old : All (λ tenant. IsTrue (may_be_old tenant.words tenant.quota tenant.old)) tenants
  pub slots : sum_by (λ tenant. tenant.quota) tenants ≤ pool

-- the call that was under way, if any, is of a worker below MAX_WORKERS
abbrev pub IsOfWorker : Option Interrupted → Type 0
IsOfWorker interrupted = IfSome interrupted (λ call. call.worker < MAX_WORKERS)

-- Each stop is of an existing tenant, no two are of one tenant, and each call under way is of a worker below
-- MAX_WORKERS.
pub record AreStops (tenants : ℕ) (stops : List Stop) : Type 0 where
  pub named : All (λ stop. stop.tenant < tenants) stops
  pub once : AllPairs (λ earlier later. earlier.tenant ≢ later.tenant) stops
  pub workers : All (λ stop. IsOfWorker stop.interrupted) stops

-- The command names tenants of the world and workers below MAX_WORKERS, and its request is one that its tenant may ask
-- for.
abbrev pub IsPlayable : Config → Command → Type 0
IsPlayable config (Come worker tenant job) = (worker < MAX_WORKERS) × (tenant < tenants_of config) × IsTrue (is_well_formed (tenant_at config tenant).words job)
IsPlayable config (Step worker) = worker < MAX_WORKERS
IsPlayable config (File worker outcome) = worker < MAX_WORKERS
IsPlayable config (Before worker kind) = worker < MAX_WORKERS
IsPlayable config (To worker kind) = worker < MAX_WORKERS
IsPlayable config (End worker) = worker < MAX_WORKERS
IsPlayable config (Restart stops) = AreStops (tenants_of config) stops.items

-- each line's command is playable, and its number is above those of the lines before it
pub record ArePlayable (config : Config) (lines : List ScheduleLine) : Type 0 where
  pub commands : All (λ line. IsPlayable config line.command) lines
  pub rising : AllPairs (λ earlier later. earlier.number < later.number) lines

-- A world can be made of the schedule's configuration, no two tenants have one name, and each of its commands is
-- playable in that world.
pub record IsSchedule (schedule : Schedule) : Type 0 where
  pub config : IsConfig schedule.config
  pub names : AreNamed schedule.config.tenants.items
  pub lines : ArePlayable schedule.config schedule.lines.items
