-- Defines what a start found of a tenant's file after a stop of the model's world, for another run to go on.
-- Used by: specs/NextRuns/FoundAfterCrashes, specs/NextRuns/ServersInTurn.
use Rattle.std.specs.Prelude.{ℕ, true, ◌≡◌, ◌⊎◌, List, Option}
use Rattle.mw_words.specs.Change.{put}
use Rattle.mw_world.specs.declared.config.Config.{Config}
use Rattle.mw_world.specs.declared.events.Interrupted.{Interrupted}
use Rattle.mw_world.specs.Definition.Restarts.{doubt_then, may_interrupt, under_way}
use Rattle.mw_world.specs.Definition.State.{State}

-- All stopped in this world, perhaps in a call on the tenant's file. A start found the words of the file, or these with a change put over
-- them: the one whose seal had made a device call, or else the one that was in doubt before, if there is one.
pub record IsFoundAfter (config : Config) (state : State) (tenant : ℕ) (words : List ℕ) : Type 0 where
  pub interrupted : Option Interrupted
  pub may : may_interrupt config state tenant interrupted ≡ true
  pub found : (words ≡ (state.tenant_states tenant).file.contents) ⊎ (words ≡ put (state.tenant_states tenant).file.contents (doubt_then (state.tenant_states tenant).file (under_way config state interrupted)))
