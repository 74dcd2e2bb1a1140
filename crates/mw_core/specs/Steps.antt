-- Defines what a call of the core does: one step of a request on the shared words, or nothing.
-- Used by: src/calls.rt, mw_engine, mw_table_tests.
use Rattle.std.specs.Prelude.{ℕ, ◌≡◌, Option, Some, None}
use Rattle.mw_words.specs.declared.replies.Reply.{Reply}
use Rattle.mw_look.specs.declared.steps.Call.{Call}
use Rattle.mw_look.specs.declared.observations.Got.{Got}
use Rattle.mw_look.specs.declared.observations.Got.TheVariants.{Word as Found}
use Rattle.mw_look.specs.Observations.{observation_of}
use Rattle.mw_look.specs.Steps.{place}
use Rattle.mw_actor.specs.ActorState.{ActorState}
use Rattle.mw_actor.specs.Asks.{asks}
use Rattle.mw_actor.specs.Program.{replied, tells}
use Rattle.mw_world.specs.Definition.Calls.{Called, called_at}
use Rattle.mw_table.specs.FromRule.{LearnsFirstStep, AddsFirstStepEvents, AddsStepEvent, LearnsStep}
use Rattle.mw_table.specs.declared.shared.Pass.{Pass}
use Rattle.mw_core.specs.declared.calls.Advance.{Advance}
use Rattle.mw_core.specs.declared.calls.Advance.TheVariants.{Stepped, NeedsFile, Finished}

-- The request was told that its step found this.
abbrev pub IsTold : Pass → ActorState → ActorState → Got → Type 0
IsTold pass actor next got = next ≡ tells actor (observation_of (place (asks actor)) got) pass.attempt

-- One step of the request was made, and it was told what the step found. The step extends a run by its own events
-- alone: the step and, if the reply is there then, its hand-out.
pub record StepsOnce (old new : Pass) (actor next : ActorState) : Type 0 where
  pub got : Got
  pub took : LearnsStep got old.seat.me.0 new.seat.me.0
  pub event : AddsStepEvent got old.seat.me.0 new.seat.me.0
  pub told : IsTold new actor next got

-- Nothing was done.
pub record IsStill (old new : Pass) (actor next : ActorState) : Type 0 where
  pub same_pass : new ≡ old
  pub same_request : next ≡ actor

-- How a `step` ends, by the call on a file that was next: if there was one, with that call and nothing done; else
-- with one step.
abbrev pub StepsAs : Pass → Pass → ActorState → ActorState → Option Call → Option Called → Type 0
StepsAs old new actor next result (Some called) = (result ≡ Some called.call) × IsStill old new actor next
StepsAs old new actor next result None = (result ≡ None) × StepsOnce old new actor next

-- The same of `step`.
abbrev pub Steps : Pass → Pass → ActorState → ActorState → Option Call → Type 0
Steps old new actor next result = StepsAs old new actor next result (called_at actor.point)

-- what `advance` returns after a step, by the reply that is there then
abbrev pub answer_of : Option Reply → Advance
answer_of None = Stepped
answer_of (Some reply) = Finished

-- How an `advance` ends, by the reply that was there before it and the call on a file that was next: if there was
-- either, with no step; else with one.
abbrev pub Ends : Pass → Pass → ActorState → ActorState → Advance → Option Reply → Option Called → Type 0
Ends old new actor next result (Some reply) called = (result ≡ Finished) × IsStill old new actor next
Ends old new actor next result None (Some call) = (result ≡ NeedsFile) × IsStill old new actor next
Ends old new actor next result None None = (result ≡ answer_of (replied next)) × StepsOnce old new actor next

-- The same of `advance`.
abbrev pub Advances : Pass → Pass → ActorState → ActorState → Advance → Type 0
Advances old new actor next result = Ends old new actor next result (replied actor) (called_at actor.point)

-- The request came, made its first step, and was told what the step found. That extends a run by its own events alone.
pub record Begins (old new : Pass) (actor next : ActorState) : Type 0 where
  pub found : ℕ
  pub began : LearnsFirstStep actor (Found found) old.seat.me.0 new.seat.me.0
  pub event : AddsFirstStepEvents actor (Found found) old.seat.me.0 new.seat.me.0
  pub told : IsTold new actor next (Found found)
