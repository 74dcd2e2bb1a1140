-- The reply that is handed out under a request's number is handed out by the worker to which the request came.
-- Used by: AnswerMomentLaws, HandOuts, CauseMoments.
use Rattle.std.specs.Prelude.{ℕ, ◌≡◌, ◌≢◌, ◌<◌, ◌≤◌, ◌==◌, ◌++◌, if◌then◌else◌, Bool, true, false, List, [], ◌∷◌, Option, Some, None}
use Rattle.std.specs.Option.{option_map}
use Rattle.std.proofs.Common.{refl, sym, ap, subst, ◌∙◌, inl, inr, arith}
use Rattle.std.proofs.lemmas.Bool.Decides.{nat_tests}
use Rattle.std.proofs.lemmas.Option.{none-some, option_and_then_some, same_Some}
use Rattle.mw_words.specs.declared.jobs.Job.{Job}
use Rattle.mw_words.specs.declared.replies.Reply.{Reply}
use Rattle.mw_actor.specs.ActorState.{ActorState, first as first_of}
use Rattle.mw_actor.specs.Program.{replied}
use Rattle.mw_world.specs.Maps.{upd}
use Rattle.mw_world.specs.declared.config.Config.{Config}
use Rattle.mw_world.specs.Claim.Headline.{IsExecution}
use Rattle.mw_world.specs.Definition.Events.{WorldEvent, Come, Step, File, Hand, Restart}
use Rattle.mw_world.specs.Definition.Requests.{came}
use Rattle.mw_world.specs.Definition.State.{State, TenantStart, WorkerState, world_at}
use Rattle.mw_world.specs.Definition.World.{outgoing, reply_for, run, step}
use Rattle.mw_rule.specs.FromLaws.{AreNoStarts}
use Rattle.mw_rule.proofs.Calls.EventsOfWorkers.{call_leads, come_leads, hand_leads, turn_leads}
use Rattle.mw_rule.proofs.FromLaws.{asks_stand_once, on_with, requests_have_begun, runs_are_simulated, runs_are_sound, same_or_other, upd_else, upd_here}
use Rattle.mw_law_store.specs.History.{IsNoStart}
use Rattle.mw_law_store.proofs.Beginnings.{run_last}
use Rattle.mw_rule.proofs.ArrivalNumbers.{arrivals_more, asked_in_run}

-- The number of a worker's request was given to it.
pub number_is_given : (config : Config) (openings : ℕ → TenantStart) (events : List WorldEvent) (state : State) (worker : ℕ) (actor : ActorState) → IsExecution config openings events state
    → (state.worker_states worker).actor ≡ Some actor → (state.worker_states worker).request < (state.tenant_states actor.tenant).asked
number_is_given config openings events state worker actor played sits =
    let low = ((runs_are_sound config openings events state played).0.counts.worker_states worker actor sits).tenant in
    let begun = (requests_have_begun config openings events state worker actor played sits).1 in
    (asks_stand_once runs_are_simulated config openings events state actor.tenant played low).numbers begun.ask (state.worker_states worker).request actor.job begun.came

-- The worker that hands out a reply has its request.
pub record HasRequest (state : State) (tenant n worker : ℕ) : Type 0 where
  pub actor : ActorState
  pub sits : (state.worker_states worker).actor ≡ Some actor
  pub its : actor.tenant ≡ tenant
  pub number : (state.worker_states worker).request ≡ n

module _ (state : State) (tenant n worker : ℕ) (reply : Reply) where
  abbrev asks : ℕ
  asks = (state.worker_states worker).request

  abbrev numbered : Reply → ℕ × Reply
  numbered said = (asks, said)

  by_reply : (found : Option Reply) → option_map numbered found ≡ Some (n, reply) → asks ≡ n
  by_reply None at = absurd (none-some (n, reply) at)
  by_reply (Some said) at = ap (λ (pair : ℕ × Reply). pair.0) (same_Some (numbered said) (n, reply) at)

  by_test : (actor : ActorState) → (state.worker_states worker).actor ≡ Some actor → (test : Bool) → (actor.tenant == tenant) ≡ test → (if test then option_map numbered (replied actor) else None) ≡ Some (n, reply)
      → HasRequest state tenant n worker
  by_test actor sits true same at = record { actor = actor; sits = sits; its = grind (arith, nat_tests, same); number = by_reply (replied actor) at }
  by_test actor sits false same at = absurd (none-some (n, reply) at)

  by_actor : (found : Option ActorState) → (state.worker_states worker).actor ≡ found → reply_for state tenant worker found ≡ Some (n, reply) → HasRequest state tenant n worker
  by_actor None sits at = absurd (none-some (n, reply) at)
  by_actor (Some actor) sits at = by_test actor sits (actor.tenant == tenant) refl at

  pub has_request : outgoing state tenant (Hand worker) ≡ Some (n, reply) → HasRequest state tenant n worker
  has_request is = by_actor (state.worker_states worker).actor refl is

-- only a hand-out gives a reply
pub hand_of : (state : State) (tenant : ℕ) (event : WorldEvent) (said : ℕ × Reply) → outgoing state tenant event ≡ Some said → (worker : ℕ) × (event ≡ Hand worker)
hand_of state tenant (Come worker other job) said is = absurd (none-some said is)
hand_of state tenant (Step worker) said is = absurd (none-some said is)
hand_of state tenant (File worker outcome) said is = absurd (none-some said is)
hand_of state tenant (Hand worker) said is = (worker, refl)
hand_of state tenant (Restart founds) said is = absurd (none-some said is)

-- A worker without a request has one after an event only if it came then, under a number that was not given before.
module _ (config : Config) (state next : State) (by : ℕ) (idle : (state.worker_states by).actor ≡ None) where
  abbrev NewIn : State → ℕ → Type 0
  NewIn one who = (actor : ActorState) → (one.worker_states who).actor ≡ Some actor → (state.tenant_states actor.tenant).asked ≤ (one.worker_states who).request

  still_idle : (other : ℕ) (now : WorkerState) → by ≢ other → (upd state.worker_states other now by).actor ≡ None
  still_idle other now apart = ap (λ (one : WorkerState). one.actor) (upd_else state.worker_states other by now apart) ∙ idle

  not_busy : (other : ℕ) (actor : ActorState) → (state.worker_states other).actor ≡ Some actor → by ≢ other
  not_busy other actor sits same = none-some actor (sym idle ∙ ap (λ (n : ℕ). (state.worker_states n).actor) same ∙ sits)

  from_idle : (next.worker_states by).actor ≡ None → NewIn next by
  from_idle none actor sits = absurd (none-some actor (sym none ∙ sits))

  at_comer : (other tenant : ℕ) (job : Job) → NewIn (came config state other tenant job) other
  at_comer other tenant job actor sits =
      let here = upd_here state.worker_states other _ in
      let it = same_Some (first_of other tenant (state.tenant_states tenant).quota config.pool job) actor (sym (ap (λ (one : WorkerState). one.actor) here) ∙ sits) in
      let number : ((came config state other tenant job).worker_states other).request ≡ (state.tenant_states tenant).asked = ap (λ (one : WorkerState). one.request) here in
      let its : (state.tenant_states tenant).asked ≡ (state.tenant_states actor.tenant).asked = ap (λ (one : ActorState). (state.tenant_states one.tenant).asked) it in
      omega (arith, number, its)

  pub new_number : (event : WorldEvent) → IsNoStart event → step config state event ≡ Some next → NewIn next by
  new_number (Come other tenant job) no_start is =
      subst (λ (one : State). NewIn one by) (come_leads config state next other tenant job is) (elim (same_or_other by other) [
        | inl same ↦ subst (NewIn (came config state other tenant job)) (sym same) (at_comer other tenant job)
        | inr apart ↦ λ actor sits. absurd (none-some actor (sym (still_idle other _ apart) ∙ sits))
      ])
  new_number (Step other) no_start is =
      from_idle (turn_leads config state next other (λ (one : State). (one.worker_states by).actor ≡ None) (λ actor cells observation sits. still_idle other _ (not_busy other actor sits)) (state.worker_states other).actor refl is)
  new_number (File other outcome) no_start is =
      from_idle (call_leads config state next other (λ (one : State). (one.worker_states by).actor ≡ None) (λ actor made sits. still_idle other _ (not_busy other actor sits)) outcome (state.worker_states other).actor refl is)
  new_number (Hand other) no_start is =
      from_idle (hand_leads config state next other (λ (one : State). (one.worker_states by).actor ≡ None) (λ actor sits. still_idle other _ (not_busy other actor sits)) (state.worker_states other).actor refl is)
  new_number (Restart founds) no_start is = absurd no_start

module _ (config : Config) (openings : ℕ → TenantStart) (tenant n worker : ℕ) where
  -- no other worker has this tenant's request of this number
  abbrev OthersLack : State → Type 0
  OthersLack state = (by : ℕ) (actor : ActorState) → by ≢ worker → (state.worker_states by).actor ≡ Some actor → actor.tenant ≡ tenant → (state.worker_states by).request ≢ n

  lack_next : (state next : State) (event : WorldEvent) → IsNoStart event → step config state event ≡ Some next → n < (state.tenant_states tenant).asked → OthersLack state → OthersLack next
  lack_next state next event no_start is given lack by after apart there its same = by_worker (state.worker_states by).actor refl
    where
      by_worker : (found : Option ActorState) → (state.worker_states by).actor ≡ found → ⊥
      by_worker None idle =
          let fresh = new_number config state next by idle event no_start is after there in
          let asked = ap (λ (t : ℕ). (state.tenant_states t).asked) its in
          absurd (omega (arith, fresh, asked, same, given))
      by_worker (Some before) sits =
          let on = on_with config state next by before sits event no_start is after there in
          lack by before apart sits (sym on.tenant ∙ its) (sym on.number ∙ same)

  pub given_next : (events : List WorldEvent) (event : WorldEvent) (state next : State) → IsExecution config openings events state → IsExecution config openings (events ++ event ∷ []) next
      → n < (state.tenant_states tenant).asked → n < (next.tenant_states tenant).asked
  given_next events event state next played played_next given =
      let was = asked_in_run config openings events state tenant played in
      let is = asked_in_run config openings (events ++ event ∷ []) next tenant played_next in
      let more = arrivals_more tenant events (event ∷ []) in
      omega (arith, was, is, more, given)

  pub lack_after : (events later : List WorldEvent) (state last : State) → IsExecution config openings events state → AreNoStarts later → run config state later ≡ Some last
      → n < (state.tenant_states tenant).asked → OthersLack state → OthersLack last
  lack_after events [] state last played none goes given lack = subst OthersLack (same_Some state last goes) lack
  lack_after events (event ∷ later) state last played none goes given lack =
      option_and_then_some (λ one. run config one later) (step config state event) last goes (λ next at on.
      let played_next : IsExecution config openings (events ++ event ∷ []) next =
      record { made = played.made; starts = played.starts; runs = run_last config (world_at config openings) state next events event played.runs at } in
      lack_after (events ++ event ∷ []) later next last played_next none.1 on (given_next events event state next played played_next given) (lack_next state next event none.0 at given lack))

  -- when the request comes, no other worker has its number
  pub lack_at_once : (events : List WorldEvent) (state next : State) (job : Job) → IsExecution config openings events state → step config state (Come worker tenant job) ≡ Some next
      → n ≡ (state.tenant_states tenant).asked → OthersLack next
  lack_at_once events state next job played comes number =
      subst OthersLack (come_leads config state next worker tenant job comes) (λ by actor apart sits its same.
      let still = upd_else state.worker_states worker by _ apart in
      let given = number_is_given config openings events state by actor played (sym (ap (λ (one : WorkerState). one.actor) still) ∙ sits) in
      let its_number : ((came config state worker tenant job).worker_states by).request ≡ (state.worker_states by).request = ap (λ (one : WorkerState). one.request) still in
      let asked : (state.tenant_states actor.tenant).asked ≡ (state.tenant_states tenant).asked = ap (λ (t : ℕ). (state.tenant_states t).asked) its in
      absurd (omega (arith, given, its_number, asked, same, number)))
