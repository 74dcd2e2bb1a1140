-- Defines that what a pass (a handle to the engine) knows of the run of the shared words goes back to the engine's start.
-- Used by: src/idle_pass.rt. A change here changes what a client is promised that borrows passes.
use Rattle.std.specs.Prelude.{◌≡◌, true, is_some, [], Option, Some}
use Rattle.mw_world.specs.Definition.State.{tenants_of}
use Rattle.mw_rule.specs.KnownRuns.{KnownRun, given_to}
use Rattle.mw_engine.specs.Brand.{Identity}
use Rattle.mw_engine.specs.FromBelow.{opening_at}

-- A run is known, and it began with the engine's start: that gave the tenants what the engine's latest start gave them, and no
-- event came before.
pub record IsSinceStart (identity : Identity) (known : Option KnownRun) : Type 0 where
  pub there : is_some known ≡ true
  pub openings : (one : KnownRun) → known ≡ Some one → one.openings ≡ given_to (opening_at identity.openings) (tenants_of identity.config)
  pub before : (one : KnownRun) → known ≡ Some one → one.before ≡ []
