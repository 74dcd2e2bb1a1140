-- Defines what a table is made of: a start or a run, what it begins with, and which runs may have been before.
-- Used by: src/after_run.rt, src/at_start.rt, src/file_calls.rt, src/first_steps.rt, src/new_table.rt, src/origin.rt,
-- src/shared.rt, mw_core, mw_table_tests.
use Rattle.std.specs.Prelude.{ℕ, List, map, Some}
use Rattle.mw_world.specs.declared.config.Config.{Config}
use Rattle.mw_world.specs.Definition.Events.{WorldEvent}
use Rattle.mw_world.specs.Definition.State.{TenantStart}
use Rattle.mw_rule.specs.declared.views.View.{View}
use Rattle.mw_rule.specs.Splits.{maker}
use Rattle.mw_table.specs.declared.origin.Origin.{Origin}
use Rattle.mw_table.specs.declared.origin.Origin.TheVariants.{Start as OfStart, Run as OfRun}
use Rattle.mw_table.specs.Basis.{Basis}
use Rattle.mw_table.specs.TableAtStart.{StartedWith, basis_of_start}
use Rattle.mw_table.specs.Runs.{LedTo, basis_of_run, last_start, worker_state_so_far}

-- what a table of this origin begins with
abbrev pub basis_of : Origin → Basis
basis_of (OfStart config found) = basis_of_start config.value found.value.items
basis_of (OfRun config tenants workers run) = basis_of_run config.value (map last_start tenants.value.items) (map worker_state_so_far workers.value.items) run.value.events

-- what its world is made of
abbrev pub config_of : Origin → Config
config_of origin = (basis_of origin).config

-- what the latest start gave each tenant
abbrev pub openings_of : Origin → List TenantStart
openings_of origin = (basis_of origin).openings

-- The first start may have given this, and these events may have happened before the table was made.
abbrev pub begun_of : Origin → (ℕ → TenantStart) → List WorldEvent → Type 0
begun_of (OfStart config found) = StartedWith config.value found.value.items
begun_of (OfRun config tenants workers run) = LedTo config.value (map last_start tenants.value.items) (map worker_state_so_far workers.value.items) run.value.events

-- what the first thread knows
abbrev pub first_of : Origin → View
first_of origin = maker (config_of origin) (openings_of origin) (Some (basis_of origin).known_run) (basis_of origin).worker_states (basis_of origin).files
