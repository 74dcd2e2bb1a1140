-- Defines what is known of a request that is under way or answered, from what its thread knew when it came.
-- Used by: src/file_lock/one_call.rt, src/reads.rt, src/serving.rt, src/steps.rt, mw_service, mw_law_threads.
use Rattle.std.specs.Prelude.{ℕ, ◌≡◌, Bool, true, false, Option, Some, None, Result, Ok, Err}
use Rattle.mw_words.specs.declared.jobs.Job.{Job}
use Rattle.mw_words.specs.declared.replies.Reply.{Reply}
use Rattle.mw_actor.specs.ActorState.{ActorState}
use Rattle.mw_actor.specs.Program.{replied}
use Rattle.mw_core.specs.FromTable.{Answered, IsInRun, IsRight, ExtendsView, WorkerToken, Serves, View}
use Rattle.mw_core.specs.declared.read_rounds.WhyAgain.{WhyAgain}

-- The request is under way: its thread has noted nothing since the request came. All that its steps found is known.
pub record IsInProgress (first now : View) (actor : ActorState) : Type 0 where
  pub token : WorkerToken
  pub serves : Serves first now token actor
  pub whole : token.is_whole ≡ true

-- A tenant's request for a job was answered. What the thread has seen goes on from what it had seen when the request
-- came, and is right. Since then it has noted this request alone, with its reply, at a place that is right and no
-- smaller than what it had seen then. All that the request's steps found is known. It is the evidence for BUSY, FAULT
-- and WORN; WORN may rest on the number of the worker's attempt too. One run of the world is behind all that the thread
-- knows now. It has this very request: its arrival after all that the thread knew when the request came, its steps, and its
-- hand-out; its worker did nothing else since. It handed out this reply under the request's number.
pub record IsAnswered (first now : View) (tenant : ℕ) (job : Job) (reply : Reply) : Type 0 where
  pub token : WorkerToken
  pub keeps : ExtendsView first now
  pub right : IsRight now
  pub answered : Answered first now token tenant job reply
  pub whole : token.is_whole ≡ true
  pub run : IsInRun token.worker tenant token.request job (Some reply) first now

-- When the request came: with this call if the pass is idle; else earlier, and it is under way.
abbrev pub IsSince : Bool → View → View → ActorState → Type 0
IsSince true first now actor = first ≡ now
IsSince false first now actor = IsInProgress first now actor

-- The outcome of a request, by its reply: without one it is under way, with one it was answered.
abbrev pub OutcomeAs : Option Reply → View → View → ActorState → Type 0
OutcomeAs None first now actor = IsInProgress first now actor
OutcomeAs (Some reply) first now actor = IsAnswered first now actor.tenant actor.job reply

-- The outcome of a request: under way, or answered.
abbrev pub RequestOutcome : View → View → ActorState → Type 0
RequestOutcome first now actor = OutcomeAs (replied actor) first now actor

-- The outcome of one round of a read: it was answered, or begins again.
abbrev pub ReadOutcome : Result Reply WhyAgain → View → View → ActorState → Type 0
ReadOutcome (Ok reply) first now actor = IsAnswered first now actor.tenant actor.job reply
ReadOutcome (Err why) first now actor = IsInProgress first now actor
