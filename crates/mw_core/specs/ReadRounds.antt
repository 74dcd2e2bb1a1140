-- Defines one round of a read over the shared words, from its first step to its reply, or back to its first point.
-- Used by: src/read_rounds.rt, mw_engine, mw_table_tests.
use Rattle.std.specs.Prelude.{ℕ, ◌≡◌, ◌≤◌, ◌+◌, Bool, true, false, List, [], ◌∷◌, length, Option, Some, None, Result, Ok, Err}
use Rattle.mw_words.specs.declared.jobs.Job.TheVariants.{Get}
use Rattle.mw_words.specs.declared.limits.TheConstants.{MAX_ENTRIES}
use Rattle.mw_words.specs.declared.replies.Reply.{Reply}
use Rattle.mw_look.specs.declared.observations.Got.{Got}
use Rattle.mw_look.specs.declared.observations.Observation.{Observation}
use Rattle.mw_look.specs.declared.points.Point.{Point as LookPoint}
use Rattle.mw_look.specs.declared.points.Point.TheVariants.{ReadDoor, Replied}
use Rattle.mw_look.specs.Observations.{observation_of}
use Rattle.mw_look.specs.Program.{Reading, first, asks as read_asks, tells}
use Rattle.mw_look.specs.Runs.{after, past}
use Rattle.mw_look.specs.Steps.{place}
use Rattle.mw_actor.specs.declared.points.Point.TheVariants.{Read}
use Rattle.mw_actor.specs.ActorState.{ActorState}
use Rattle.mw_actor.specs.Asks.{asks}
use Rattle.mw_actor.specs.Program.{replied}
use Rattle.mw_table.specs.FromRule.{Answered, LearnsFirstStep, FindsItsWay, AddsFirstStepEvents, AddsStepEvent, WorkerToken, Serves, LearnsStep, View}
use Rattle.mw_world.specs.Definition.Cells.{Cells}
use Rattle.mw_world.specs.Definition.Changes.{done}
use Rattle.mw_table.specs.declared.shared.Pass.{Pass}
use Rattle.mw_table.specs.Passes.{IsIdleAfter}
use Rattle.mw_core.specs.declared.read_rounds.WhyAgain.{WhyAgain}
use Rattle.mw_core.specs.Reasons.{Because, turns}

-- The request is a read at its first step.
pub record IsLook (actor : ActorState) : Type 0 where
  pub address : ℕ
  pub job : actor.job ≡ Get address
  pub at_first : actor.point ≡ Read (first actor.tenant address)

-- the read after it was told these observations, of which the latest is first
abbrev pub heard : ActorState → ℕ → List Observation → ActorState
heard actor address observation = record actor { point = Read (after (first actor.tenant address) observation) }

-- a read is neither at its first point nor at its reply
abbrev pub is_under_way : LookPoint → Bool
is_under_way ReadDoor = false
is_under_way (Replied reply) = false
is_under_way point = true

-- What the thread learned from a step of a request: from the first step, with which it came; or from a step of one
-- that it carried.
abbrev pub TookAs : Bool → ActorState → Got → View → View → Type 0
TookAs true actor got old new = LearnsFirstStep actor got old new
TookAs false actor got old new = LearnsStep got old new

-- The same step extends a run by its own events.
abbrev pub GoesOnAs : Bool → ActorState → Got → View → View → Type 0
GoesOnAs true actor got old new = AddsFirstStepEvents actor got old new
GoesOnAs false actor got old new = AddsStepEvent got old new

-- One step of a read was told this, and extends a run by its own events alone: the step, the coming before a first
-- step, and the hand-out of a reply.
pub record Walks (comes : Bool) (actor : ActorState) (told : Observation) (old new : View) : Type 0 where
  pub got : Got
  pub took : TookAs comes actor got old new
  pub event : GoesOnAs comes actor got old new
  pub is_told : told ≡ observation_of (place (asks actor)) got

-- These are the observations of a read's steps from its first on, of which the latest is first. At each step but the
-- first it was under way.
abbrev pub Walked : Bool → ActorState → ℕ → List Observation → View → View → Type 0
Walked comes actor address [] old new = ⊥
Walked comes actor address (told ∷ []) old new = Walks comes (heard actor address []) told old new
Walked comes actor address (told ∷ before ∷ earlier) old new =
    (between : View) × Walked comes actor address (before ∷ earlier) old between × (is_under_way (after (first actor.tenant address) (before ∷ earlier)).point ≡ true)
    × Walks false (heard actor address (before ∷ earlier)) told between new

-- what the next step of a read finds in some shared words
abbrev pub finds : Reading → Cells → Observation
finds read cells = done (read_asks read) cells (λ after observation. observation)

-- The first step was made, and found what some shared words have.
pub record MakesFirst (old new : Pass) (actor next : ActorState) (address : ℕ) : Type 0 where
  pub told : Observation
  pub cells : Cells
  pub found : told ≡ finds (first actor.tenant address) cells
  pub walks : Walks old.idle (heard actor address []) told old.seat.me.0 new.seat.me.0
  pub next_is : next ≡ heard actor address (told ∷ [])

-- The next step of a read was made, in shared words in which it finds its way. This is why it turned back there, if it did.
pub record MakesNext (old new : Pass) (actor next : ActorState) (read : Reading) (why : Option WhyAgain) : Type 0 where
  pub told : Observation
  pub cells : Cells
  pub found : told ≡ finds read cells
  pub walks : Walks false actor told old.seat.me.0 new.seat.me.0
  pub way : FindsItsWay cells read.tenant read.address read.point
  pub next_is : next ≡ record actor { point = Read (tells read told) }
  pub why_is : why ≡ turns read.point told

-- How a round ends. With the reply: the pass is idle. Without it: this is why it turned back, and the pass is unchanged.
abbrev pub EndsAs : Result Reply WhyAgain → Pass → Pass → ActorState → Option WhyAgain → Type 0
EndsAs (Ok reply) old new actor why = (replied actor ≡ Some reply) × IsIdleAfter old new
EndsAs (Err one) old new actor why = (replied actor ≡ None) × (why ≡ Some one) × (new ≡ old)

-- The thread has served the request since it knew `first`. `whole` says whether the request came after the table was
-- made, so that all that its steps found is known.
abbrev pub ServedAs : Bool → View → View → ActorState → Type 0
ServedAs whole first now actor = (token : WorkerToken) × Serves first now token actor × (token.is_whole ≡ whole)

-- Since when the thread serves the request: if the pass was idle, since this call began, and then all that its steps
-- find is known; else since the request came.
abbrev pub IsSince : Bool → Bool → View → View → ActorState → Type 0
IsSince true whole first now actor = (first ≡ now) × (whole ≡ true)
IsSince false whole first now actor = ServedAs whole first now actor

-- How the call ends then. With its reply, the request is answered, at its position, and with its evidence if all that
-- its steps found is known; else the thread still serves the request, which is at its first step again.
abbrev pub CallStands : Result Reply WhyAgain → Bool → View → View → ActorState → Type 0
CallStands (Ok reply) whole first now actor = (token : WorkerToken) × Answered first now token actor.tenant actor.job reply × (token.is_whole ≡ whole)
CallStands (Err why) whole first now actor = ServedAs whole first now actor

-- How a round ends for the request: with its reply; or at its first point, as it was, and this is why.
abbrev pub LookEnds : Result Reply WhyAgain → ActorState → ActorState → ℕ → List Observation → Type 0
LookEnds (Ok reply) actor next address observation = replied next ≡ Some reply
LookEnds (Err why) actor next address observation = (next ≡ actor) × Because why actor.tenant address (past (first actor.tenant address) observation)

-- whether the pass is idle then
abbrev pub is_over : Result Reply WhyAgain → Bool
is_over (Ok reply) = true
is_over (Err why) = false

-- One round of a read.
pub record Looks (old new : Pass) (actor next : ActorState) (result : Result Reply WhyAgain) : Type 0 where
  pub address : ℕ
  pub job : actor.job ≡ Get address
  pub observation : List Observation
  pub walked : Walked old.idle actor address observation old.seat.me.0 new.seat.me.0
  pub few : length observation ≤ 11 + MAX_ENTRIES
  pub next_is : next ≡ heard actor address observation
  pub ends : LookEnds result actor next address observation
  pub idle : new.idle ≡ is_over result
  pub call : (first : View) (whole : Bool) → IsSince old.idle whole first old.seat.me.0 actor → CallStands result whole first new.seat.me.0 actor
