-- Defines what a table (array of shared atomic words) begins with, whether it is made at a start or after a run.
-- Used by: mw_core (which passes it on to mw_engine), mw_table_tests; Runs and TableAtStart, NewPasses and NewFilePasses,
-- Origins, through which it is in the contracts of this crate.
use Rattle.std.specs.Prelude.{ℕ, List}
use Rattle.mw_world.specs.declared.config.Config.{Config}
use Rattle.mw_world.specs.Definition.State.{TenantStart, WorkerState}
use Rattle.mw_rule.specs.KnownRuns.{KnownRun}
use Rattle.mw_rule.specs.declared.views.HeldFile.{HeldFile}

-- What a table begins with.
pub record Basis : Type 0 where
  -- what its world is made of
  pub config : Config
  -- what the latest start gave each tenant
  pub openings : List TenantStart
  -- the run that led to it
  pub known_run : KnownRun
  -- the state of each worker
  pub worker_states : ℕ → WorkerState
  -- the files for which it makes passes
  pub files : List HeldFile
