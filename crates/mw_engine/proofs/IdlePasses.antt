-- When a pass becomes idle, what is known of its finished request stays. Used by: Engine::advance.
use Rattle.std.specs.Prelude.{◌≡◌, true, false, is_some, Option, Some, None}
use Rattle.std.proofs.Common.{refl, sym, subst}
use Rattle.mw_words.specs.declared.replies.Reply.{Reply}
use Rattle.mw_actor.specs.ActorState.{ActorState}
use Rattle.mw_core.specs.FromTable.{IsIdleAfter, Pass, View}
use Rattle.mw_engine.specs.History.{RequestOutcome}
use Rattle.mw_engine.specs.Steps.{RestsAs}

pub rested_as : (reply : Option Reply) (old new : Pass) → is_some reply ≡ true → IsIdleAfter old new → RestsAs reply old new
rested_as None old new is rested = absurd (cc)
rested_as (Some reply) old new is rested = rested

pub still_as : (reply : Option Reply) (pass : Pass) → is_some reply ≡ false → RestsAs reply pass pass
still_as None pass is = refl
still_as (Some reply) pass is = absurd (cc)

-- the outcome of the request stays
pub rested_stands : (first : View) (old new : Pass) (actor : ActorState) → IsIdleAfter old new → RequestOutcome first old.seat.me.0 actor → RequestOutcome first new.seat.me.0 actor
rested_stands first old new actor rested stands =
    let same : new.seat.me.0 ≡ old.seat.me.0 = λ i. (rested.same_seat i).me.0 in
    subst (λ (view : View). RequestOutcome first view actor) (sym same) stands
