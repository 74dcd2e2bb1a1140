-- Defines which passes belong to an engine.
-- Used by: src/end.rt, src/figures.rt, src/file_calls.rt, src/file_lock/one_call.rt, src/meet.rt, src/new_parts.rt,
-- src/notes.rt, src/reads.rt, src/serving.rt, src/steps.rt, src/tenants.rt, mw_service, mw_law_threads,
-- mw_programs, mw_engine_tests.
use Rattle.std.specs.Prelude.{◌≡◌, ◌<◌, true, [], Some}
use Rattle.mw_core.specs.FromTable.{IsFree, IsOf, Pass, Shared, config_of, known_run_of, opening_at}
use Rattle.mw_engine.specs.Brand.{Identity}

-- The pass is the engine's: of its table and its world, and for one of its workers. It has no file pass. A pass has one
-- only during a call on a file.
pub record IsPassOf (identity : Identity) (pass : Pass) : Type 0 where
  pub table : pass.seat.table_id ≡ identity.table
  pub config : pass.seat.me.0.config ≡ identity.config
  pub openings : pass.seat.me.0.openings ≡ identity.openings
  pub there : pass.worker < identity.config.workers
  pub free : IsFree pass

-- A new pass: its worker has no request, and its next attempt is number 0. It has seen nothing and noted nothing. The
-- run that it knows is the start alone.
pub record IsNew (identity : Identity) (pass : Pass) : Type 0 where
  pub own : IsPassOf identity pass
  pub idle : pass.idle ≡ true
  pub attempt : pass.attempt ≡ 0
  pub nothing_seen : pass.seat.me.0.seen ≡ []
  pub nothing_noted : pass.seat.me.0.mine ≡ []
  pub begun : pass.seat.me.0.known_run ≡ Some (known_run_of identity.config (opening_at identity.openings) [] [])

-- The same for a table: the pass is one of its own.
pub record IsOneOf (shared : Shared) (pass : Pass) : Type 0 where
  pub own : IsOf shared pass
  pub there : pass.worker < (config_of shared.table.shared.key).workers
  pub free : IsFree pass
