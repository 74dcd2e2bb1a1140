-- After each step a thread still knows of its request that it is under way, or that it was answered.
-- Used by: Engine::serve, advance, make_step, try_look.
use Rattle.std.specs.Prelude.{ℕ, ◌≡◌, Bool, true, false, List, [], ◌∷◌, map, Option, Some, None, Result, Ok, Err}
use Rattle.std.proofs.Common.{refl, sym, ap, subst, ◌∙◌}
use Rattle.mw_words.specs.declared.replies.Reply.{Reply}
use Rattle.mw_look.specs.declared.observations.Got.TheVariants.{Word as Found}
use Rattle.mw_look.specs.declared.observations.Observation.{Observation}
use Rattle.mw_look.specs.Observations.{observation_of}
use Rattle.mw_look.specs.Steps.{place}
use Rattle.mw_actor.specs.ActorState.{ActorState}
use Rattle.mw_actor.specs.Asks.{asks}
use Rattle.mw_actor.specs.Program.{replied, tells}
use Rattle.mw_world.specs.Definition.Calls.{Called, called_at}
use Rattle.mw_world.specs.Definition.Turns.{next_attempt}
use Rattle.mw_core.specs.FromTable.{IsRight, ExtendsView, MayCome, Pass, WorkerToken, Serves, View, comes, number_of, settled, stepped, actor_after}
use Rattle.mw_core.proofs.FromTable.{calls_begin, calls_end, calls_go_on, keeps_all, keeps_on, keeps_so, settled_number}
use Rattle.mw_core.specs.declared.calls.Advance.{Advance}
use Rattle.mw_core.specs.declared.read_rounds.WhyAgain.{WhyAgain}
use Rattle.mw_core.specs.Steps.{Advances, Begins, Ends}
use Rattle.mw_core.specs.ReadRounds.{Looks, Walked, Walks, heard}
use Rattle.mw_core.specs.ReadRounds as core
use Rattle.mw_engine.specs.History.{IsInProgress, IsSince, ReadOutcome, RequestOutcome, OutcomeAs}

abbrev second_of : List (ℕ × ℕ) → ℕ
second_of [] = 0
second_of (one ∷ rest) = one.1

-- the pass tells the number of its worker's next attempt
pub attempt_now : (pass : Pass) (token : WorkerToken) (actor : ActorState) → pass.seat.me.0.tokens ≡ settled token actor ∷ [] → token.attempt ≡ pass.attempt
attempt_now pass token actor only =
    sym (ap (λ (p : ℕ × ℕ). p.1) (settled_number token actor (replied actor))) ∙ ap second_of (sym (ap (map number_of) only) ∙ pass.numbered)

-- a request that came with its first step is under way
pub begun_serves : (old new : Pass) (actor next : ActorState) → MayCome old.seat.me.0 old.worker actor → Begins old new actor next → IsInProgress old.seat.me.0 new.seat.me.0 next
begun_serves old new actor next may begins =
    let got = Found begins.found in
    let began = begins.began in
    let after : WorkerToken = stepped got (comes actor began.request began.begun may.token) actor in
    let serves : Serves old.seat.me.0 new.seat.me.0 after (actor_after got may.token.attempt actor) = calls_begin old.seat.me.0 new.seat.me.0 old.worker actor got may began in
    let number : next_attempt actor.point may.token.attempt ≡ new.attempt = attempt_now new after (actor_after got may.token.attempt actor) serves.only in
    let same : actor_after got may.token.attempt actor ≡ next = ap (tells actor (observation_of (place (asks actor)) got)) number ∙ sym begins.told in
    record { token = after; serves = subst (λ (one : ActorState). Serves old.seat.me.0 new.seat.me.0 after one) same serves; whole = refl }

-- a request that made its next step, or none, is still under way
ends_serve : (first : View) (old new : Pass) (actor next : ActorState) (result : Advance) (reply : Option Reply) (called : Option Called) → replied actor ≡ reply → IsInProgress first old.seat.me.0 actor
    → Ends old new actor next result reply called → IsInProgress first new.seat.me.0 next
ends_serve first old new actor next result (Some reply) called is served ends =
    subst (λ (one : ActorState). IsInProgress first new.seat.me.0 one) (sym ends.1.same_request) (subst (λ (pass : Pass). IsInProgress first pass.seat.me.0 actor) (sym ends.1.same_pass) served)
ends_serve first old new actor next result None (Some call) is served ends =
    subst (λ (one : ActorState). IsInProgress first new.seat.me.0 one) (sym ends.1.same_request) (subst (λ (pass : Pass). IsInProgress first pass.seat.me.0 actor) (sym ends.1.same_pass) served)
ends_serve first old new actor next result None None is served ends =
    let once = ends.1 in
    let got = once.got in
    let after : WorkerToken = stepped got served.token actor in
    let serves : Serves first new.seat.me.0 after (actor_after got served.token.attempt actor) =
    calls_go_on first old.seat.me.0 new.seat.me.0 served.token actor got served.serves is once.took in
    let number : next_attempt actor.point served.token.attempt ≡ new.attempt = attempt_now new after (actor_after got served.token.attempt actor) serves.only in
    let same : actor_after got served.token.attempt actor ≡ next = ap (tells actor (observation_of (place (asks actor)) got)) number ∙ sym once.told in
    record { token = after; serves = subst (λ (one : ActorState). Serves first new.seat.me.0 after one) same serves; whole = served.whole }

pub advanced_serves : (first : View) (old new : Pass) (actor next : ActorState) (result : Advance) → IsInProgress first old.seat.me.0 actor → Advances old new actor next result
    → IsInProgress first new.seat.me.0 next
advanced_serves first old new actor next result served advances = ends_serve first old new actor next result (replied actor) (called_at actor.point) refl served advances

-- the outcome, by the reply
pub served_stands : (first now : View) (actor : ActorState) → IsInProgress first now actor → RequestOutcome first now actor
served_stands first now actor served = by (replied actor) refl
  where
    by : (reply : Option Reply) → replied actor ≡ reply → OutcomeAs reply first now actor
    by None is = served
    by (Some reply) is =
        let answered = calls_end first now served.token actor reply served.serves is in
        record {
          token = served.token;
          keeps = served.serves.keeps;
          right = served.serves.right;
          answered = answered;
          whole = served.whole;
          run = answered.run served.whole;
        }

-- a request that came before this call, or with it
pub since_first : (idle : Bool) (first now : View) (actor : ActorState) → idle ≡ true → IsSince idle first now actor → first ≡ now
since_first idle first now actor is since = subst (λ (test : Bool). IsSince test first now actor) is since

pub since_served : (idle : Bool) (first now : View) (actor : ActorState) → idle ≡ false → IsSince idle first now actor → IsInProgress first now actor
since_served idle first now actor is since = subst (λ (test : Bool). IsSince test first now actor) is since

pub served_since : (idle : Bool) (first now : View) (actor : ActorState) → idle ≡ false → IsInProgress first now actor → IsSince idle first now actor
served_since idle first now actor is served = subst (λ (test : Bool). IsSince test first now actor) (sym is) served

since_keeps : (idle : Bool) (first now : View) (actor : ActorState) → IsSince idle first now actor → ExtendsView first now
since_keeps true first now actor since = subst (λ (view : View). ExtendsView first view) since (keeps_all first)
since_keeps false first now actor since = since.serves.keeps

-- the same in the words of mw_core
core_since : (idle : Bool) (first now : View) (actor : ActorState) → IsSince idle first now actor → core.IsSince idle true first now actor
core_since true first now actor since = (since, refl)
core_since false first now actor since = (since.token, since.serves, since.whole)

-- the steps of a read keep what was seen, and leave it right
walks_keep : (comes : Bool) (actor : ActorState) (told : Observation) (old new : View) → Walks comes actor told old new → ExtendsView old new × IsRight new
walks_keep true actor told old new walks = (keeps_so old new walks.took.goes_on, walks.took.right)
walks_keep false actor told old new walks = (keeps_so old new walks.took.goes_on, walks.took.right)

walked_keeps : (comes : Bool) (actor : ActorState) (address : ℕ) (observation : List Observation) (old new : View) → Walked comes actor address observation old new → ExtendsView old new × IsRight new
walked_keeps comes actor address [] old new walked = absurd walked
walked_keeps comes actor address (told ∷ []) old new walked = walks_keep comes (heard actor address []) told old new walked
walked_keeps comes actor address (told ∷ before ∷ earlier) old new walked =
    let one = walked_keeps comes actor address (before ∷ earlier) old walked.0 walked.1 in
    let last = walks_keep false (heard actor address (before ∷ earlier)) told walked.0 new walked.3 in
    (keeps_on old walked.0 new one.0 last.0, last.1)

-- the outcome of one round of a read
pub look_stands : (old new : Pass) (actor next : ActorState) (result : Result Reply WhyAgain) → Looks old new actor next result → (first : View) → IsSince old.idle first old.seat.me.0 actor
    → ReadOutcome result first new.seat.me.0 actor
look_stands old new actor next (Ok reply) looks first since =
    let kept = walked_keeps old.idle actor looks.address looks.observation old.seat.me.0 new.seat.me.0 looks.walked in
    let call = looks.call first true (core_since old.idle first old.seat.me.0 actor since) in
    record {
      token = call.0;
      keeps = keeps_on first old.seat.me.0 new.seat.me.0 (since_keeps old.idle first old.seat.me.0 actor since) kept.0;
      right = kept.1;
      answered = call.1;
      whole = call.2;
      run = call.1.run call.2;
    }
look_stands old new actor next (Err why) looks first since =
    let call = looks.call first true (core_since old.idle first old.seat.me.0 actor since) in
    record { token = call.0; serves = call.1; whole = call.2 }
