-- What a step found determines how the call that made it ends, and the pass still carries the request.
-- Used by: Core::advance, begin, make_next, step, mw_engine.
use Rattle.std.specs.Prelude.{ℕ, ◌≡◌, Bool, true, false, List, [], ◌∷◌, map, Option, Some, None, is_some, if◌then◌else◌}
use Rattle.std.proofs.Common.{refl, sym, ap, subst, ◌∙◌}
use Rattle.mw_words.specs.declared.replies.Reply.{Reply}
use Rattle.mw_look.specs.declared.observations.Got.{Got}
use Rattle.mw_look.specs.Observations.{observation_of}
use Rattle.mw_look.specs.declared.steps.Call.{Call}
use Rattle.mw_look.specs.declared.steps.Op.{Op}
use Rattle.mw_look.specs.declared.steps.Op.TheVariants.{Load as LoadBits, Change as ChangeBits, File as FileCall}
use Rattle.mw_look.specs.Steps.{op_of, place}
use Rattle.mw_look.specs.Program.{asks_at as read_asks_at}
use Rattle.mw_look.specs.declared.points.Point.{Point as LookPoint}
use Rattle.mw_look.specs.declared.points.Point.TheVariants.{Pin, Unpin, FreeSlot, LowerDoor}
use Rattle.mw_actor.specs.declared.points.Point.{Point}
use Rattle.mw_actor.specs.declared.points.Point.TheVariants.{Read, Prepare, Seal, Settle, Cancel}
use Rattle.mw_actor.specs.ActorState.{ActorState}
use Rattle.mw_actor.specs.Asks.{asks, asks_at}
use Rattle.mw_actor.specs.Program.{replied, tells}
use Rattle.mw_world.specs.Definition.Calls.{Called, called_at}
use Rattle.mw_world.specs.Definition.Turns.{next_attempt}
use Rattle.mw_table.specs.FromRule.{LearnsFirstStep, Each, AddsStepEvent, IsReady, IsReadyFor, MayCome, WorkerToken, LearnsStep, comes, settled, settled_as, stepped, told}
use Rattle.mw_table.specs.declared.shared.Pass.{Pass}
use Rattle.mw_table.specs.CarriedRequest.{IsCarried}
use Rattle.mw_table.specs.Numbers.{number_of}
use Rattle.mw_table.specs.Idleness.{has_none}
use Rattle.mw_table.proofs.CarriedRequests.{is_file}
use Rattle.mw_table.proofs.StepsKeepNumbers.{settled_number}
use Rattle.mw_core.specs.declared.calls.Advance.{Advance}
use Rattle.mw_core.specs.declared.calls.Advance.TheVariants.{NeedsFile, Finished}
use Rattle.mw_core.specs.Steps.{Advances, Ends, IsTold, Steps, StepsAs, answer_of}
use Rattle.mw_core.proofs.MadeCalls.{same_call}

-- a read makes no call on a file
pub read_calls_none : (tenant address : ℕ) (point : LookPoint) → is_file (op_of (read_asks_at tenant address point)) ≡ false
read_calls_none tenant address (Pin trail from to) = refl
read_calls_none tenant address (Unpin slot seq after) = refl
read_calls_none tenant address (FreeSlot slot seq after) = refl
read_calls_none tenant address (LowerDoor after) = refl
read_calls_none tenant address point = refl

-- if the step is a call on a file, the request is at a call
call_there : (actor : ActorState) (point : Point) → is_file (op_of (asks_at actor point)) ≡ true → (called : Called) × (called_at point ≡ Some called)
call_there actor (Prepare own) is = (_, refl)
call_there actor (Seal task) is = (_, refl)
call_there actor (Settle task) is = (_, refl)
call_there actor (Cancel task) is = (_, refl)
call_there actor (Read look) is = let none = read_calls_none look.tenant look.address look.point in absurd (cc)
call_there actor point is = absurd (cc)

no_call_there : (actor : ActorState) (point : Point) → is_file (op_of (asks_at actor point)) ≡ false → called_at point ≡ None
no_call_there actor (Prepare own) is = absurd (cc)
no_call_there actor (Seal task) is = absurd (cc)
no_call_there actor (Settle task) is = absurd (cc)
no_call_there actor (Cancel task) is = absurd (cc)
no_call_there actor point is = refl

-- the reply was there before
pub stood_before : (pass : Pass) (actor : ActorState) → is_some (replied actor) ≡ true → Advances pass pass actor actor Finished
stood_before pass actor stands = by_reply (replied actor) stands
  where
    by_reply : (reply : Option Reply) → is_some reply ≡ true → Ends pass pass actor actor Finished reply (called_at actor.point)
    by_reply None is = absurd (cc)
    by_reply (Some reply) is = (refl, record { same_pass = refl; same_request = refl })

none_of : (reply : Option Reply) → is_some reply ≡ false → reply ≡ None
none_of None is = refl
none_of (Some reply) is = absurd (cc)

pub runs_still : (actor : ActorState) → is_some (replied actor) ≡ false → replied actor ≡ None
runs_still actor is = none_of (replied actor) is

-- a call on a file is next
pub file_next : (pass : Pass) (actor : ActorState) (call : Call) (slot : ℕ) → op_of (asks actor) ≡ FileCall call slot → Steps pass pass actor actor (Some call)
file_next pass actor call slot is =
    let there = call_there actor actor.point (ap is_file is) in
    subst (λ (called : Option Called). StepsAs pass pass actor actor (Some call) called) (sym there.1)
    (ap Some (sym (same_call actor there.0 call slot there.1 is)), record { same_pass = refl; same_request = refl })

-- a step was made
pub step_made : (old new : Pass) (actor next : ActorState) (got : Got) → is_file (op_of (asks actor)) ≡ false → LearnsStep got old.seat.me.0 new.seat.me.0
    → AddsStepEvent got old.seat.me.0 new.seat.me.0 → IsTold new actor next got → Steps old new actor next None
step_made old new actor next got plain took event told =
    subst (λ (called : Option Called). StepsAs old new actor next None called) (sym (no_call_there actor actor.point plain)) (refl, record { got = got; took = took; event = event; told = told })

-- A step of a request without a reply ends a call of `advance`.
ends_by : (old new : Pass) (actor next : ActorState) (stepped : Option Call) (result : Advance) (called : Option Called) → StepsAs old new actor next stepped called
    → result ≡ (if is_some stepped then NeedsFile else answer_of (replied next)) → Ends old new actor next result None called
ends_by old new actor next stepped result (Some called) steps is = (is ∙ ap (λ (one : Option Call). if is_some one then NeedsFile else answer_of (replied next)) steps.0, steps.1)
ends_by old new actor next stepped result None steps is = (is ∙ ap (λ (one : Option Call). if is_some one then NeedsFile else answer_of (replied next)) steps.0, steps.1)

pub advanced : (old new : Pass) (actor next : ActorState) (stepped : Option Call) (result : Advance) → replied actor ≡ None → Steps old new actor next stepped
    → result ≡ (if is_some stepped then NeedsFile else answer_of (replied next)) → Advances old new actor next result
advanced old new actor next stepped result running steps is =
    subst (λ (reply : Option Reply). Ends old new actor next result reply (called_at actor.point)) (sym running) (ends_by old new actor next stepped result (called_at actor.point) steps is)

abbrev second_of : List (ℕ × ℕ) → ℕ
second_of [] = 0
second_of (one ∷ rest) = one.1

running_so : (token : WorkerToken) (actor : ActorState) → replied actor ≡ None → settled token actor ≡ record token { actor = Some actor }
running_so token actor running = ap (settled_as token actor) running

-- the pass carries the request that has come
pub carried_first : (old new : Pass) (actor : ActorState) (got : Got) → MayCome old.seat.me.0 old.worker actor → new.worker ≡ old.worker → LearnsFirstStep actor got old.seat.me.0 new.seat.me.0
    → IsCarried new (tells actor (observation_of (place (asks actor)) got) new.attempt)
carried_first old new actor got may same began =
    let token = comes actor began.request began.begun may.token in
    let observation = observation_of (place (asks actor)) got in
    let next = next_attempt actor.point token.attempt in
    let after : WorkerToken = stepped got token actor in
    let has : new.seat.me.0.tokens ≡ settled after (tells actor observation next) ∷ [] =
    began.token ∙ ap (map (λ (one : WorkerToken). told got (comes actor began.request began.begun one))) may.has.only in
    let tagged : number_of (settled after (tells actor observation next)) ∷ [] ≡ (new.worker, new.attempt) ∷ [] = sym (ap (map number_of) has) ∙ new.numbered in
    let second : number_of (settled after (tells actor observation next)) ≡ (token.worker, next) = settled_number after (tells actor observation next) (replied (tells actor observation next)) in
    let numbered : next ≡ new.attempt = sym (ap (λ (p : ℕ × ℕ). p.1) second) ∙ ap second_of tagged in
    let only : new.seat.me.0.tokens ≡ settled after (tells actor observation new.attempt) ∷ [] = has ∙ ap (λ (n : ℕ). settled after (tells actor observation n) ∷ []) numbered in
    record {
      token = after;
      carries = record { own = may.has.own ∙ sym same; same_attempt = numbered; only = only };
      ready = λ run.
          let all : Each (IsReady new.seat.me.0.config) (settled after (tells actor observation new.attempt) ∷ []) =
          subst (λ (some : List WorkerToken). Each (IsReady new.seat.me.0.config) some) only began.ready in
          subst (λ (one : WorkerToken). IsReadyFor new.seat.me.0.config one.actor) (running_so after (tells actor observation new.attempt) run) all.0 run;
    }

-- the step is given in bits
pub plain_so : (op : Op) → ((call : Call) (slot : ℕ) → op ≡ FileCall call slot → ⊥) → is_file op ≡ false
plain_so (LoadBits at) other = refl
plain_so (ChangeBits kind at from to) other = refl
plain_so (FileCall call slot) other = absurd (other call slot refl)

-- a pass that carries a request without a reply isn't idle
pub busy_so : (pass : Pass) (actor : ActorState) → IsCarried pass actor → replied actor ≡ None → pass.idle ≡ false
busy_so pass actor carried running = by pass.idle refl
  where
    never : false ∷ [] ≡ true ∷ [] → ⊥
    never is = cc

    by : (idle : Bool) → pass.idle ≡ idle → idle ≡ false
    by false is = refl
    by true is =
        absurd (never (sym (ap (map has_none) (carried.carries.only ∙ ap (λ (reply : Option Reply). settled_as carried.token actor reply ∷ []) running)) ∙ pass.rests is))
