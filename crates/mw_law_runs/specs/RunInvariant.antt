-- Defines a sound world: what holds of a world at every moment of a run, except about its files and its marks.
-- Used by: mw_law_store, mw_rule.
use Rattle.std.specs.Prelude.{ℕ, ◌≡◌, Some}
use Rattle.mw_actor.specs.ActorState.{ActorState}
use Rattle.mw_actor.specs.Ranges.{IsInRange}
use Rattle.mw_world.specs.declared.config.Config.{Config}
use Rattle.mw_world.specs.Claim.Invariant.{RequestsAreTheirWorkers, ChangesClaimTheirSlots, SlotsTellTheirChanges, ReferencesArePinned, AttemptsAreTheirWorkers, WordsFollowTheirChanges, StaleHelpersLose, HeldWordsHaveReleasers, CountsAreRight}
use Rattle.mw_world.specs.Definition.State.{State}
use Rattle.mw_law_runs.specs.Moves.Memory.{Memory}
use Rattle.mw_law_runs.specs.Moves.Steps.{PointsAreTold}
use Rattle.mw_law_runs.specs.Counts.Exact.{IsLookInRange}
use Rattle.mw_law_runs.specs.Counts.CountInvariant.{CountsStand}
use Rattle.mw_law_runs.specs.Knowledge.Informed.{IsPointFor}
use Rattle.mw_law_runs.specs.Knowledge.NextState.{KnowsItsPoint}
use Rattle.mw_law_runs.specs.Obligations.{WordsHaveReleasers}

-- A request is in range and at a point for its job. Its slots are live: each is taken under the number by which the request knows it. The request
-- knows the facts of its point.
pub record IsSoundRequest (state : State) (actor : ActorState) : Type 0 where
  pub in_range : IsInRange actor
  pub look_in_range : IsLookInRange actor.point
  pub for_job : IsPointFor actor.job actor.point
  pub stands : KnowsItsPoint state actor

-- A sound world. The invariant of the shared words holds (`Memory`), and so does the invariant of counts. What each worker may do is what its
-- request's point says. Each request is sound. Words have releasers.
pub record IsSound (config : Config) (state : State) : Type 0 where
  pub memory : Memory config state
  pub points : PointsAreTold state
  pub counts : CountsStand config state
  pub requests : (worker : ℕ) (actor : ActorState) → (state.worker_states worker).actor ≡ Some actor → IsSoundRequest state actor
  pub releasers : WordsHaveReleasers state

-- All parts of the world's invariant (`Invariant`) except those about files and their places.
pub record IsRightButForFiles (config : Config) (state : State) : Type 0 where
  pub requests : RequestsAreTheirWorkers config state
  pub claims : ChangesClaimTheirSlots config state
  pub slots : SlotsTellTheirChanges state
  pub references : ReferencesArePinned state
  pub attempts : AttemptsAreTheirWorkers state
  pub words : WordsFollowTheirChanges state
  pub late : StaleHelpersLose state
  pub releasers : HeldWordsHaveReleasers state
  pub counts : CountsAreRight config state
