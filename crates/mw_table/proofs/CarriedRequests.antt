-- A pass that carries a request (its worker's present one) still carries it after a step, told what the step found.
-- Used by: mw_core.
use Rattle.std.specs.Prelude.{ℕ, ◌≡◌, Bool, true, false, List, [], ◌∷◌, map, Some, None}
use Rattle.std.proofs.Common.{refl, sym, ap, subst, ◌∙◌}
use Rattle.mw_look.specs.declared.observations.Got.{Got}
use Rattle.mw_look.specs.declared.steps.Op.{Op}
use Rattle.mw_look.specs.declared.steps.Op.TheVariants.{Load as LoadBits, Change as ChangeBits, File as FileCall}
use Rattle.mw_look.specs.Observations.{observation_of}
use Rattle.mw_look.specs.Steps.{Step, Load, Change, File, op_of, place, place_of}
use Rattle.mw_actor.specs.declared.points.Point.{Point}
use Rattle.mw_actor.specs.declared.points.Point.TheVariants.{Prepare, Seal, Settle, Cancel}
use Rattle.mw_actor.specs.ActorState.{ActorState}
use Rattle.mw_actor.specs.Asks.{asks, asks_at}
use Rattle.mw_actor.specs.Program.{replied, tells}
use Rattle.mw_world.specs.declared.config.Config.{Config}
use Rattle.mw_world.specs.Definition.Calls.{called_at}
use Rattle.mw_world.specs.Definition.Extent.{has_place}
use Rattle.mw_world.specs.Definition.Turns.{may_make, next_attempt}
use Rattle.mw_rule.specs.declared.views.WorkerToken.{WorkerToken}
use Rattle.mw_rule.specs.Steps.{IsNextStep, IsReady, IsReadyAt, IsReadyFor, LearnsStep, settled, settled_as, stepped, told}
use Rattle.mw_rule.specs.Rule.{Each}
use Rattle.mw_table.specs.declared.shared.Pass.{Pass}
use Rattle.mw_table.specs.CarriedRequest.{IsCarried}
use Rattle.mw_table.specs.Numbers.{number_of}
use Rattle.mw_table.proofs.StepsKeepNumbers.{settled_number}

-- the step is a call on a file
abbrev pub is_file : Op → Bool
is_file (LoadBits at) = false
is_file (ChangeBits kind at from to) = false
is_file (FileCall call slot) = true

no_call_at : (actor : ActorState) (point : Point) → is_file (op_of (asks_at actor point)) ≡ false → called_at point ≡ None
no_call_at actor (Prepare own) is = absurd (cc)
no_call_at actor (Seal task) is = absurd (cc)
no_call_at actor (Settle task) is = absurd (cc)
no_call_at actor (Cancel task) is = absurd (cc)
no_call_at actor point is = refl

there_so : (config : Config) (step : Step) → may_make config step ≡ true → has_place config (place_of (op_of step)) ≡ true
there_so config (Load at) is = is
there_so config (Change kind at from to) is = is
there_so config (File call slot) is = absurd (cc)

pub running_so : (token : WorkerToken) (actor : ActorState) → replied actor ≡ None → settled token actor ≡ record token { actor = Some actor }
running_so token actor running = ap (settled_as token actor) running

-- the request's next step is one that the pass may make
pub drives_so : (pass : Pass) (actor : ActorState) (op : Op) → IsCarried pass actor → replied actor ≡ None → op_of (asks actor) ≡ op → is_file op ≡ false → IsNextStep pass.seat.me.0 pass.worker op
drives_so pass actor op carried running is plain =
    let config = pass.seat.me.0.config in
    let no_call : called_at actor.point ≡ None = no_call_at actor actor.point (ap is_file is ∙ plain) in
    record {
      token = record carried.token { actor = Some actor };
      has = record { only = carried.carries.only ∙ ap (λ (one : WorkerToken). one ∷ []) (running_so carried.token actor running); own = carried.carries.own };
      actor = actor;
      carries = refl;
      running = running;
      no_call = no_call;
      is = is;
      there = ap (λ (one : Op). has_place config (place_of one)) (sym is) ∙ there_so config (asks actor) (subst (IsReadyAt config actor) no_call (carried.ready running));
    }

abbrev second_of : List (ℕ × ℕ) → ℕ
second_of [] = 0
second_of (one ∷ rest) = one.1

-- the pass carries the request that was told what its step found
pub carried_on : (old new : Pass) (actor : ActorState) (got : Got) → IsCarried old actor → replied actor ≡ None → new.worker ≡ old.worker → LearnsStep got old.seat.me.0 new.seat.me.0
    → IsCarried new (tells actor (observation_of (place (asks actor)) got) new.attempt)
carried_on old new actor got carried running same took =
    let token = carried.token in
    let observation = observation_of (place (asks actor)) got in
    let next = next_attempt actor.point token.attempt in
    let after : WorkerToken = stepped got token actor in
    let had : old.seat.me.0.tokens ≡ record token { actor = Some actor } ∷ [] = carried.carries.only ∙ ap (λ (one : WorkerToken). one ∷ []) (running_so token actor running) in
    let has : new.seat.me.0.tokens ≡ settled after (tells actor observation next) ∷ [] = took.token ∙ ap (map (told got)) had in
    let tagged : number_of (settled after (tells actor observation next)) ∷ [] ≡ (new.worker, new.attempt) ∷ [] = sym (ap (map number_of) has) ∙ new.numbered in
    let second : number_of (settled after (tells actor observation next)) ≡ (token.worker, next) = settled_number after (tells actor observation next) (replied (tells actor observation next)) in
    let numbered : next ≡ new.attempt = sym (ap (λ (p : ℕ × ℕ). p.1) second) ∙ ap second_of tagged in
    let only : new.seat.me.0.tokens ≡ settled after (tells actor observation new.attempt) ∷ [] = has ∙ ap (λ (n : ℕ). settled after (tells actor observation n) ∷ []) numbered in
    record {
      token = after;
      carries = record { own = carried.carries.own ∙ sym same; same_attempt = numbered; only = only };
      ready = λ run.
          let all : Each (IsReady new.seat.me.0.config) (settled after (tells actor observation new.attempt) ∷ []) =
          subst (λ (some : List WorkerToken). Each (IsReady new.seat.me.0.config) some) only took.ready in
          subst (λ (one : WorkerToken). IsReadyFor new.seat.me.0.config one.actor) (running_so after (tells actor observation new.attempt) run) all.0 run;
    }
