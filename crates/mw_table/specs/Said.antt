-- Defines what a thread learns from a request's first step, which announces the request, and which events it adds to a run.
-- Used by: src/first_steps.rt.
use Rattle.std.specs.Prelude.{ℕ}
use mathlib.Core.Option.{Option, some, none}
use Rattle.mw_look.specs.declared.observations.Got.TheVariants.{Word as Found}
use Rattle.mw_actor.specs.ActorState.{ActorState}
use Rattle.mw_rule.specs.declared.views.View.{View}
use Rattle.mw_rule.specs.Steps.{LearnsFirstStep}
use Rattle.mw_rule.specs.WordActions.{AddsFirstStepEvents}

-- If the step announces a request, the thread learns its first step, which extends a run by its events.
abbrev pub BeganAs : Option ActorState → ℕ → View → View → Type 0
BeganAs none found old new = Unit {0}
BeganAs (some actor) found old new = LearnsFirstStep actor (Found found) old new × AddsFirstStepEvents actor (Found found) old new
