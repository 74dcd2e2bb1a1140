-- Defines a pass's worker, the number of that worker's next attempt, and which number an attempt takes.
-- Used by: src/shared.rt, src/steps.rt, mw_core.
use Rattle.std.specs.Prelude.{ℕ, ◌≡◌, ◌<◌, List, map, Option, Some, None}
use Rattle.mw_words.specs.declared.limits.TheConstants.{WORN_NUMBER}
use Rattle.mw_actor.specs.declared.points.Point.{Point}
use Rattle.mw_actor.specs.declared.points.Point.TheVariants.{Plant}
use Rattle.mw_actor.specs.ActorState.{ActorState}
use Rattle.mw_rule.specs.declared.views.WorkerToken.{WorkerToken}
use Rattle.mw_rule.specs.declared.views.View.{View}
use Rattle.mw_rule.specs.Rule.{Each}

-- the worker of a token, with the number of its next attempt
abbrev pub number_of : WorkerToken → ℕ × ℕ
number_of token = (token.worker, token.attempt)

-- the same of each token of a view
abbrev pub numbers : View → List (ℕ × ℕ)
numbers view = map number_of view.tokens

-- An attempt to hold a word takes the number of the worker's next attempt, and that isn't the last number.
abbrev pub TakesNumber : ℕ → Point → Type 0
TakesNumber attempt (Plant task entry number) = (number ≡ attempt) × (attempt < WORN_NUMBER)
TakesNumber attempt point = Unit {0}

-- The same of a request, if there is one.
abbrev pub TakesNumberFor : ℕ → Option ActorState → Type 0
TakesNumberFor attempt None = Unit {0}
TakesNumberFor attempt (Some actor) = TakesNumber attempt actor.point

-- The same of each request that a thread carries.
abbrev pub AreNumbered : View → Type 0
AreNumbered view = Each (λ (token : WorkerToken). TakesNumberFor token.attempt token.actor) view.tokens
