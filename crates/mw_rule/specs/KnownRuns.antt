-- Defines what a thread knows of the table's run: the run of the world that leads to the words in the table.
-- Used by: src/views.rt, mw_table, mw_service, mw_law_threads. A change here changes the contracts of mw_table.
use Rattle.std.specs.Prelude.{ℕ, zero, suc, ◌≡◌, List, [], ◌∷◌, ◌++◌, map, Option, Some, None}
use Rattle.mw_world.specs.declared.outcomes.Outcome.TheVariants.{Fail}
use Rattle.mw_world.specs.declared.config.Config.{Config}
use Rattle.mw_world.specs.Definition.Events.{WorldEvent, File}
use Rattle.mw_world.specs.Definition.State.{TenantStart, tenants_of}

-- A run as a thread knows it: what its first start gave each tenant, the events before the table was made, and the
-- events since. It doesn't tell which device call failed in a call on a file: there the number is 0, which no device call has.
pub record KnownRun : Type 0 where
  pub openings : List TenantStart
  pub before : List WorldEvent
  pub events : List WorldEvent

-- The event without the number of the device call that failed in it. The thread that made the call says the number.
abbrev pub plain : WorldEvent → WorldEvent
plain (File worker (Fail number)) = File worker (Fail 0)
plain event = event

-- what a start gave each of the first so many tenants
abbrev pub given_to : (ℕ → TenantStart) → ℕ → List TenantStart
given_to openings zero = []
given_to openings (suc tenants) = given_to openings tenants ++ openings tenants ∷ []

-- a run of a world of this configuration, as a thread knows it
abbrev pub known_run_of : Config → (ℕ → TenantStart) → List WorldEvent → List WorldEvent → KnownRun
known_run_of config openings before events = record { openings = given_to openings (tenants_of config); before = before; events = map plain events }

-- a run of which nothing is known
abbrev pub no_known_run : KnownRun
no_known_run = record { openings = []; before = []; events = [] }

-- One run extends another: it has the same first start and the same events before the table, and its events begin
-- with the other's.
pub record ExtendsRun (known now : KnownRun) : Type 0 where
  pub same_openings : now.openings ≡ known.openings
  pub same_before : now.before ≡ known.before
  pub since : List WorldEvent
  pub events : now.events ≡ known.events ++ since

-- The same, if a run was known before; if none was known, nothing is required.
abbrev pub ExtendsKnownRun : Option KnownRun → Option KnownRun → Type 0
ExtendsKnownRun None now = Unit {0}
ExtendsKnownRun (Some known) None = ⊥
ExtendsKnownRun (Some known) (Some now) = ExtendsRun known now
