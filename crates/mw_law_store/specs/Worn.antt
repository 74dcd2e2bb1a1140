-- States that no request answers WORN in a run with numbers left, and what holds of numbers also when they are used up.
-- Used by: src/laws.rt, mw_law_threads.
use Rattle.std.specs.Prelude.{ℕ, ◌≡◌, ◌≤◌, Bool, true, false, List, Some}
use Rattle.mw_words.specs.declared.limits.TheConstants.{WORN_NUMBER}
use Rattle.mw_words.specs.declared.replies.Reply.{Reply}
use Rattle.mw_words.specs.declared.replies.Reply.TheVariants.{Worn as SaysWorn}
use Rattle.mw_look.specs.declared.points.Point.{Point as ReadPoint}
use Rattle.mw_look.specs.declared.points.Point.TheVariants.{Replied as RepliedOfRead}
use Rattle.mw_actor.specs.declared.points.After.{After}
use Rattle.mw_actor.specs.declared.points.After.TheVariants.{GiveUp as ThenGiveUp, Reply as ThenReply}
use Rattle.mw_actor.specs.declared.points.Point.{Point}
use Rattle.mw_actor.specs.declared.points.Point.TheVariants.{Read, ScanGate, Claim, Unpin, FreeSlot, LowerDoor, GiveUp, Replied}
use Rattle.mw_actor.specs.ActorState.{ActorState}
use Rattle.mw_world.specs.declared.config.Config.{Config}
use Rattle.mw_world.specs.Claim.Headline.{IsExecution, IsRun}
use Rattle.mw_world.specs.Definition.Events.{WorldEvent}
use Rattle.mw_world.specs.Definition.State.{State, TenantStart}

-- the reply is WORN
abbrev pub is_worn_reply : Reply → Bool
is_worn_reply SaysWorn = true
is_worn_reply reply = false

-- a request that goes on so ends with WORN
abbrev pub is_worn_after : After → Bool
is_worn_after (ThenGiveUp own reply) = is_worn_reply reply
is_worn_after (ThenReply reply) = is_worn_reply reply
is_worn_after onward = false

-- the read has the reply WORN
abbrev pub is_worn_read : ReadPoint → Bool
is_worn_read (RepliedOfRead reply) = is_worn_reply reply
is_worn_read point = false

-- at this point a request is on the way to WORN
abbrev pub is_worn_at : Point → Bool
is_worn_at (Read look) = is_worn_read look.point
is_worn_at (ScanGate slot saw_worn) = saw_worn
is_worn_at (Claim slot saw_worn from to) = saw_worn
is_worn_at (Unpin slot onward) = is_worn_after onward
is_worn_at (FreeSlot slot onward) = is_worn_after onward
is_worn_at (LowerDoor onward) = is_worn_after onward
is_worn_at (GiveUp own reply) = is_worn_reply reply
is_worn_at (Replied reply) = is_worn_reply reply
is_worn_at point = false

-- No request is on the way to WORN, and no worker's next attempt has a number above the worn one.
pub record NoneIsWorn (state : State) : Type 0 where
  pub points : (worker : ℕ) (actor : ActorState) → (state.worker_states worker).actor ≡ Some actor → is_worn_at actor.point ≡ false
  pub attempts : (worker : ℕ) → (state.worker_states worker).attempt ≤ WORN_NUMBER

-- After every run with numbers left that is so.
abbrev pub RunsAreNotWorn : Type 0
RunsAreNotWorn = (config : Config) (openings : ℕ → TenantStart) (events : List WorldEvent) (state : State) → IsRun config openings events state → NoneIsWorn state

-- After every run no worker's next attempt has a number above the worn one.
abbrev pub AttemptsAreNumbers : Type 0
AttemptsAreNumbers = (config : Config) (openings : ℕ → TenantStart) (events : List WorldEvent) (state : State) → IsExecution config openings events state → (worker : ℕ) → (state.worker_states worker).attempt ≤ WORN_NUMBER
