-- After a worker's events for its request (arrival, step, handed-out reply), what the worker's token (ghost knowledge of its
-- request) says is true. Used by: FileCallEvents, StepRule, ViewAfterStep.
use Rattle.std.specs.Prelude.{ℕ, ◌≡◌, ◌≢◌, ◌≤◌, ◌<◌, ◌==◌, ◌&&◌, not, Bool, true, false, if◌then◌else◌, List, [], ◌∷◌, ◌++◌, length, is_some, is_none, nat_lt, Option, Some, None}
use Rattle.std.specs.Option.{option_and_then}
use Rattle.std.proofs.Common.{refl, sym, ap, subst, ◌∙◌, append_assoc, append-nil, inl, inr, arith}
use Rattle.std.proofs.lemmas.Bool.Decides.{nat_tests}
use Rattle.std.proofs.lemmas.Option.{none-some, option_and_then_some, same_Some}
use Rattle.mw_words.specs.declared.limits.TheConstants.{WORN_NUMBER}
use Rattle.mw_words.specs.declared.replies.Reply.{Reply}
use Rattle.mw_words.specs.declared.jobs.Job.{Job}
use Rattle.mw_words.specs.Change.{is_well_formed}
use Rattle.mw_lone.specs.declared.marks.Mark.{Mark}
use Rattle.mw_lone.specs.declared.marks.Mark.TheVariants.{Reply as HandOut}
use Rattle.mw_look.specs.declared.observations.Got.{Got}
use Rattle.mw_look.specs.Observations.{observation_of}
use Rattle.mw_look.specs.Steps.{place}
use Rattle.mw_actor.specs.ActorState.{ActorState, first}
use Rattle.mw_actor.specs.Asks.{asks}
use Rattle.mw_actor.specs.Program.{replied, tells}
use Rattle.mw_world.specs.Maps.{upd}
use Rattle.mw_world.specs.declared.config.Config.{Config}
use Rattle.mw_world.specs.declared.step_labels.StepLabel.{StepLabel}
use Rattle.mw_world.specs.declared.step_labels.StepLabel.TheVariants as note
use Rattle.mw_world.specs.Claim.Headline.{IsExecution}
use Rattle.mw_world.specs.Definition.Cells.{Cells}
use Rattle.mw_world.specs.Definition.Events.{WorldEvent, Come, Step, Hand}
use Rattle.mw_world.specs.Definition.History.{History}
use Rattle.mw_world.specs.Definition.LabelEffects.{more, with_labels}
use Rattle.mw_world.specs.Definition.State.{State, TenantStart, WorkerState, tenant_at, tenants_of}
use Rattle.mw_world.specs.Definition.Turns.{may_make, made_of, moved, next_attempt, turn, turned}
use Rattle.mw_world.specs.Definition.World.{begun, asked, hand, handed, may_come, run, step}
use Rattle.mw_rule.proofs.FromLaws.{asks_stand_once, attempts_are_numbers, on_with, replies_are_linearized, requests_begin, requests_stay_begun, runs_are_simulated, same_or_other, upd_else, upd_here}
use Rattle.mw_rule.specs.FromLaws.{AreApart, IsRightAt, IsRightSince, AbstractState, sealed_of, words_at_start}
use Rattle.mw_rule.specs.declared.views.WorkerEvent.{WorkerEvent}
use Rattle.mw_rule.specs.declared.views.WorkerEvent.TheVariants.{Came, Stepped, Handed}
use Rattle.mw_rule.specs.declared.views.Finished.{Finished}
use Rattle.mw_rule.specs.declared.views.WorkerToken.{WorkerToken}
use Rattle.mw_rule.specs.Steps.{AddsFinished, Notes, AddsFinishedIf, comes, finished_as, settled, settled_as, stepped, told_as, actor_after}
use Rattle.mw_rule.specs.RunEvents.{hand_out}
use Rattle.mw_rule.specs.Evidence.{HasEvidence}
use Rattle.mw_rule.specs.Rule.{Each, HasEvidenceFor, Holds, IsHandedOut, IsOver, worker_event_if, is_of, events_of_worker, times_finished}
use Rattle.mw_rule.specs.Prefixes.{CameAfter, HasBegunFor}
use Rattle.mw_rule.proofs.EvidenceSteps.{evidence_of, whole_evidence}
use Rattle.mw_rule.proofs.EvidenceInRuns.{first_with_evidence, evidence_told, quota_so}
use Rattle.mw_rule.proofs.HandedReplies.{handed_after, hands_out, itself}
use Rattle.mw_rule.proofs.WorkerStretches.{Leads, leads_on, made_on, no_fewer, one_gift, over_on, played_on, same_start, sealed_on, tenant_there}
use Rattle.mw_rule.proofs.KnowledgeIsRight.{IsRightIn, right_on}
use Rattle.mw_rule.proofs.Totals.{times_none, weight_few}
use Rattle.mw_rule.proofs.Words.{cells_after, done_is, observation_after}

not_it : (one other : ℕ) → other ≢ one → (one == other) ≡ false
not_it one other apart = grind (arith, nat_tests, apart)

pub own_worker_event : (worker : ℕ) (worker_event : WorkerEvent) → worker_event_if (worker == worker) worker_event ++ [] ≡ worker_event ∷ []
own_worker_event worker worker_event = ap (λ own. worker_event_if own worker_event ++ []) (itself worker)

pub no_worker_event : (worker other : ℕ) (worker_event : WorkerEvent) → other ≢ worker → worker_event_if (worker == other) worker_event ++ [] ≡ []
no_worker_event worker other worker_event apart = ap (λ own. worker_event_if own worker_event ++ []) (not_it worker other apart)

-- a step leaves the request's number
pub same_request : (note : StepLabel) (past : History) (lines : List (Option Mark)) (worker_state : WorkerState) → (with_labels note past lines worker_state).request ≡ worker_state.request
same_request note.Reserved past lines worker_state = refl
same_request (note.Freed slot) past lines worker_state = refl
same_request note.Nothing past lines worker_state = refl
same_request note.Admitted past lines worker_state = refl
same_request note.FoundBusy past lines worker_state = refl
same_request note.FoundFault past lines worker_state = refl
same_request note.Looked past lines worker_state = refl
same_request note.LookedBefore past lines worker_state = refl
same_request (note.Claimed slot) past lines worker_state = refl
same_request (note.Decided target status) past lines worker_state = refl
same_request (note.Refused target entry value) past lines worker_state = refl
same_request (note.Moved target address phase) past lines worker_state = refl
same_request note.Lowered past lines worker_state = refl
same_request (note.GaveUp own fault) past lines worker_state = refl
same_request (note.SealedIt target) past lines worker_state = refl
same_request (note.FailedToSeal target) past lines worker_state = refl
same_request note.FailedFile past lines worker_state = refl

-- a run of one event is its step
one_event : (config : Config) (state next : State) (event : WorldEvent) → run config state (event ∷ []) ≡ Some next → step config state event ≡ Some next
one_event config state next event runs = option_and_then_some (λ one. run config one []) (step config state event) next runs (λ after at on. at ∙ on)

-- What these events of a worker reach: the world after them, a token that is true in it, and the requests that finish.
pub record Reached (config : Config) (openings : ℕ → TenantStart) (old : State) (worker : ℕ) (events more : List WorldEvent) (token : WorkerToken) (cells : Cells) (IsSo : List Finished → Type 0) : Type 0 where
  pub after : State
  pub leads : Leads config old worker after more
  pub holds : Holds config openings after (events ++ more) token
  pub same_cells : after.cells ≡ cells
  pub noted : List Finished
  pub right : Each (IsRightIn config openings after) noted
  pub handed : Each (IsHandedOut config old more) noted
  pub own : Each (λ one. one.worker ≡ worker) noted
  pub ends : IsSo noted
  pub few : (tenant request : ℕ) → times_finished tenant request noted ≤ 1
  pub fresh : (other : Finished) → IsOver old other → times_finished other.tenant other.request noted ≡ 0
  pub over : Each (IsOver after) noted

-- The world after a step, after a reply is handed out, and after a request came.
module _ (state : State) (worker : ℕ) (actor : ActorState) where
  abbrev pub after_step : State
  after_step = moved state worker actor (made_of state worker actor (cells_after (asks actor) state.cells) (observation_after (asks actor) state.cells))

  abbrev pub after_hand : State
  after_hand = record state {
    worker_states = upd state.worker_states worker (record (state.worker_states worker) { actor = None });
    tenant_states = upd state.tenant_states actor.tenant (record (state.tenant_states actor.tenant) { lines = more (state.tenant_states actor.tenant).lines (Some (HandOut (state.worker_states worker).request)) });
  }

abbrev pub after_come : Config → State → ℕ → ℕ → Job → State
after_come config state worker tenant job = record state {
  worker_states = upd state.worker_states worker (begun (state.worker_states worker) (first worker tenant (state.tenant_states tenant).quota config.pool job) (state.tenant_states tenant).asked);
  tenant_states = upd state.tenant_states tenant (asked (state.tenant_states tenant) job);
}

module _ (config : Config) (openings : ℕ → TenantStart) (before : List WorldEvent) (state : State) (played : IsExecution config openings before state) where
  module _ (worker : ℕ) (actor : ActorState) (sits : (state.worker_states worker).actor ≡ Some actor) where
    step_happens : replied actor ≡ None → may_make config (asks actor) ≡ true → run config state (Step worker ∷ []) ≡ Some (after_step state worker actor)
    step_happens running there =
        ap (λ (one : Option ActorState). option_and_then (λ next. Some next) (turn config state worker one)) sits
        ∙ ap (λ (test : Bool). option_and_then (λ next. Some next) (if test then Some (turned state worker actor) else None)) (by_tests (replied actor) (may_make config (asks actor)) running there)
        ∙ ap Some (done_is (asks actor) state.cells (λ cells observation. moved state worker actor (made_of state worker actor cells observation)))
      where
        by_tests : (reply : Option Reply) (may : Bool) → reply ≡ None → may ≡ true → (not (is_some reply) && may) ≡ true
        by_tests None may none is = is
        by_tests (Some reply) may none is = absurd (some_none reply none)
          where
            some_none : (reply : Reply) → Some reply ≡ None → ⊥
            some_none reply e = cc

    pub step_leads : replied actor ≡ None → may_make config (asks actor) ≡ true → Leads config state worker (after_step state worker actor) (Step worker ∷ [])
    step_leads running there_so = record {
      runs = step_happens running there_so;
      others = λ other apart. upd_else state.worker_states worker other _ apart;
      quiet = λ other apart. no_worker_event worker other Stepped apart;
      no_starts = (tt, tt);
      gifts = λ tenant. one_gift state.tenant_states actor.tenant _ (record { quota = refl; places = refl; is_up = refl; asked = no_fewer _ _ refl }) tenant;
      own = λ next there.
          let same = on_with config state (after_step state worker actor) worker actor sits (Step worker) tt
          (one_event config state (after_step state worker actor) (Step worker) (step_happens running there_so)) next there in inl (actor, sits, sym same.tenant, sym same.number);
    }

  -- A step of the worker whose token this is.
  module _ (events : List WorldEvent) (token : WorkerToken) (actor : ActorState) (carries : token.actor ≡ Some actor) (holds : Holds config openings state events token) where
    step_holds : (got : Got) → replied actor ≡ None → may_make config (asks actor) ≡ true → observation_of (place (asks actor)) got ≡ observation_after (asks actor) state.cells
        → Holds config openings (after_step state token.worker actor) (events ++ Step token.worker ∷ [])
        (record (stepped got token actor) { actor = Some (actor_after got token.attempt actor) })
    step_holds got running there told =
        let sits = holds.actor ∙ carries in
        let after = after_step state token.worker actor in
        let own = upd_here state.worker_states token.worker _ in
        let now : (after.worker_states token.worker).actor ≡ Some (actor_after got token.attempt actor) =
        ap (λ (worker_state : WorkerState). worker_state.actor) own ∙ (λ i. Some (tells actor (sym told i) (next_attempt actor.point (holds.attempt i)))) in
        let begun : CameAfter openings state token.worker actor token.begun = subst (HasBegunFor openings state token.worker token.begun) carries holds.begun in
        record {
          there = holds.there;
          actor = now;
          attempt = ap (λ (worker_state : WorkerState). worker_state.attempt) own ∙ ap (next_attempt actor.point) holds.attempt;
          request = ap (λ (worker_state : WorkerState). worker_state.request) own ∙ same_request _ _ _ (state.worker_states token.worker) ∙ holds.request;
          made = made_on token.worker events (Step token.worker ∷ []) ∙ ap (λ made. events_of_worker token.worker events ++ made) (own_worker_event token.worker Stepped)
              ∙ ap (λ made. made ++ Stepped ∷ []) holds.made;
          begun = record {
            sealed = begun.sealed;
            no_fewer = begun.no_fewer;
            came = (requests_stay_begun config openings before state after (Step token.worker) token.worker actor (actor_after got token.attempt actor) begun.sealed played begun.came tt
                (one_event config state after (Step token.worker) (step_happens token.worker actor sits running there)) now).1;
          };
          evidence = evidence_told config openings before state played token.worker actor sits token got told holds.attempt (subst (HasEvidenceFor token) carries holds.evidence);
        }

-- A reply is handed out.
module _ (config : Config) (openings : ℕ → TenantStart) (state : State) (events : List WorldEvent) (token : WorkerToken) (next : ActorState)
    (holds : Holds config openings state events (record token { actor = Some next })) (reply : Reply) (stands : replied next ≡ Some reply) where
  hand_leads : Leads config state token.worker (after_hand state token.worker next) (Hand token.worker ∷ [])
  hand_leads = record {
    runs = ap (λ (one : Option ActorState). option_and_then (λ last. Some last) (hand state token.worker one)) holds.actor
        ∙ ap (λ (one : Option Reply). option_and_then (λ last. Some last) (handed state token.worker next.tenant one)) stands;
    others = λ other apart. upd_else state.worker_states token.worker other _ apart;
    quiet = λ other apart. no_worker_event token.worker other Handed apart;
    no_starts = (tt, tt);
    gifts = λ tenant. one_gift state.tenant_states next.tenant _ (record { quota = refl; places = refl; is_up = refl; asked = no_fewer _ _ refl }) tenant;
    own = λ after sits. absurd (none-some after (sym (ap (λ (worker_state : WorkerState). worker_state.actor) (upd_here state.worker_states token.worker (record (state.worker_states token.worker) { actor = None }))) ∙ sits));
  }

  hand_holds : Holds config openings (after_hand state token.worker next) (events ++ Hand token.worker ∷ []) (record token { actor = None; made = token.made ++ Handed ∷ [] })
  hand_holds =
      let own = upd_here state.worker_states token.worker (record (state.worker_states token.worker) { actor = None }) in
      record {
        there = holds.there;
        actor = ap (λ (worker_state : WorkerState). worker_state.actor) own;
        attempt = ap (λ (worker_state : WorkerState). worker_state.attempt) own ∙ holds.attempt;
        request = ap (λ (worker_state : WorkerState). worker_state.request) own ∙ holds.request;
        made = made_on token.worker events (Hand token.worker ∷ []) ∙ ap (λ made. events_of_worker token.worker events ++ made) (own_worker_event token.worker Handed) ∙ ap (λ made. made ++ Handed ∷ []) holds.made;
        begun = tt;
        evidence = tt;
      }

-- requests of two workers of one tenant have two numbers
two_apart : (tenant : ℕ) (worker_state other : WorkerState) (actor another : ActorState) → worker_state.actor ≡ Some actor → other.actor ≡ Some another → AreApart tenant worker_state other worker_state.actor other.actor → actor.tenant ≡ tenant
    → another.tenant ≡ tenant → worker_state.request ≢ other.request
two_apart tenant worker_state other actor another sits goes apart its theirs =
    (subst (λ (one : Option ActorState). AreApart tenant worker_state other one (Some another)) sits (subst (AreApart tenant worker_state other worker_state.actor) goes apart) its theirs).numbers

-- A request that has its reply is right at its position, and stays right when the reply is handed out.
module _ (config : Config) (openings : ℕ → TenantStart) (before : List WorldEvent) (state : State) (played : IsExecution config openings before state) (events : List WorldEvent) (token : WorkerToken) (next : ActorState)
    (holds : Holds config openings state events (record token { actor = Some next })) (reply : Reply) (stands : replied next ≡ Some reply) where
  since : IsRightSince holds.begun.sealed (words_at_start openings state next.tenant) (sealed_of openings state next.tenant) (state.worker_states token.worker).request next.job reply
  since = replies_are_linearized config openings before state token.worker next holds.begun.sealed reply played holds.begun.came stands

  the_finished : Finished
  the_finished = finished_as token next.tenant next.job reply since.place

  stands_right : IsRightIn config openings state the_finished
  unfolding the_finished
  stands_right = record {
    there = tenant_there config openings before state played token.worker next holds.actor;
    within = since.within;
    right = subst (λ (n : ℕ). IsRightAt (words_at_start openings state next.tenant) (sealed_of openings state next.tenant) since.place n next.job reply) holds.request since.right;
    evidence = λ whole.
        subst (λ (quota : ℕ). HasEvidence token.found token.attempt next.tenant quota reply) (quota_so config openings before state played token.worker next holds.actor)
        (whole_evidence token.found token.attempt next.tenant next.quota reply
        (subst (λ (n : ℕ). n ≤ WORN_NUMBER) holds.attempt (attempts_are_numbers config openings before state played token.worker))
        (evidence_of token.found token.attempt next.tenant next.quota next.point reply stands (holds.evidence whole)));
  }

  handed_right : IsRightIn config openings (after_hand state token.worker next) the_finished
  handed_right =
      let after = after_hand state token.worker next in
      let leads = hand_leads config openings state events token next holds reply stands in
      right_on (tenants_of config) (λ tenant. (state.tenant_states tenant).quota) (λ tenant. (after.tenant_states tenant).quota) (words_at_start openings state) (words_at_start openings after) (sealed_of openings state)
      (sealed_of openings after) (λ tenant low. sym (leads.gifts tenant).quota)
      (λ tenant low. ap (λ (start : AbstractState). start.words) (sym (same_start config openings before state played token.worker after (Hand token.worker ∷ []) leads tenant low)))
      (λ tenant low. sealed_on config openings before state played token.worker after (Hand token.worker ∷ []) leads tenant low) the_finished stands_right

  is_handed : IsHandedOut config state (Hand token.worker ∷ []) the_finished
  unfolding the_finished
  is_handed = (0, hands_out config state token.worker token.request next reply holds.actor stands holds.request)

  is_own : the_finished.worker ≡ token.worker
  unfolding the_finished
  is_own = refl

  is_noted : AddsFinished token next.tenant token.begun next.job reply [] (the_finished ∷ [])
  unfolding the_finished
  is_noted = let fewer = holds.begun.no_fewer in let later = since.no_smaller in record { place = since.place; no_smaller = omega (arith, fewer, later); noted = refl }

  -- the request's number was given to it, and no other worker has that number
  low : next.tenant < tenants_of config
  low = tenant_there config openings before state played token.worker next holds.actor

  given : (state.worker_states token.worker).request < (state.tenant_states next.tenant).asked
  given = (asks_stand_once runs_are_simulated config openings before state next.tenant played low).numbers holds.begun.came.ask (state.worker_states token.worker).request next.job holds.begun.came.came

  numbers_apart : (by : ℕ) (actor : ActorState) → by ≢ token.worker → (state.worker_states by).actor ≡ Some actor → actor.tenant ≡ next.tenant → (state.worker_states by).request ≢ (state.worker_states token.worker).request
  numbers_apart by actor apart sits its =
      two_apart next.tenant (state.worker_states by) (state.worker_states token.worker) actor next sits holds.actor ((runs_are_simulated config openings before state next.tenant played low).simulated.refines.asks.apart by token.worker apart) its
      refl

  handed_over : IsOver (after_hand state token.worker next) the_finished
  unfolding the_finished
  handed_over =
      let after = after_hand state token.worker next in
      let leads = hand_leads config openings state events token next holds reply stands in
      let request = holds.request in
      record {
        given = let some = (leads.gifts next.tenant).asked in let was = given in omega (arith, some, was, request);
        left = λ by actor sits its same. elim (same_or_other by token.worker) [
          | inl own ↦ none-some actor (sym (ap (λ (n : ℕ). (after.worker_states n).actor) own ∙ ap (λ (worker_state : WorkerState). worker_state.actor) (upd_here state.worker_states token.worker (record (state.worker_states token.worker) { actor = None }))) ∙ sits)
          | inr apart ↦
              let worker_state = leads.others by apart in
              numbers_apart by actor apart (sym (ap (λ (one : WorkerState). one.actor) worker_state) ∙ sits) its (sym (ap (λ (one : WorkerState). one.request) worker_state) ∙ same ∙ sym request)
        ];
      }

  is_fresh : (other : Finished) → IsOver state other → times_finished other.tenant other.request (the_finished ∷ []) ≡ 0
  unfolding the_finished
  is_fresh other over = times_none other.tenant other.request (the_finished ∷ []) (
    λ its same. over.left token.worker next holds.actor its (holds.request ∙ same),
    tt,
  )

  is_few : (tenant request : ℕ) → times_finished tenant request (the_finished ∷ []) ≤ 1
  is_few tenant request = let few = weight_few (is_of tenant request the_finished) in omega (arith, few)

-- the reply is handed out, if it is there
pub settles : (config : Config) (openings : ℕ → TenantStart) (before : List WorldEvent) (old state : State) (played : IsExecution config openings before state) (events more : List WorldEvent) (token : WorkerToken) (next : ActorState)
    → Leads config old token.worker state more → Holds config openings state (events ++ more) (record token { actor = Some next })
    → Reached config openings old token.worker events (more ++ hand_out token.worker (replied next)) (settled token next) state.cells (AddsFinishedIf token next.tenant token.begun next.job (replied next) [])
settles config openings before old state played events more token next leads holds = by (replied next) refl
  where
    by : (reply : Option Reply) → replied next ≡ reply
        → Reached config openings old token.worker events (more ++ hand_out token.worker reply) (settled_as token next reply) state.cells (AddsFinishedIf token next.tenant token.begun next.job reply [])
    by None stands =
        subst (λ all. Reached config openings old token.worker events all (settled_as token next None) state.cells (AddsFinishedIf token next.tenant token.begun next.job None [])) (sym (append-nil more))
        (record { after = state; leads = leads; holds = holds; same_cells = refl; noted = []; right = tt; handed = tt; own = tt; ends = refl; few = λ tenant request. omega arith; fresh = λ other over. refl; over = tt })
    by (Some reply) stands = record {
      after = after_hand state token.worker next;
      leads = leads_on config old state (after_hand state token.worker next) token.worker more (Hand token.worker ∷ []) leads (hand_leads config openings state (events ++ more) token next holds reply stands);
      holds = subst (λ all. Holds config openings (after_hand state token.worker next) all (record token { actor = None; made = token.made ++ Handed ∷ [] })) (append_assoc events more (Hand token.worker ∷ []))
          (hand_holds config openings state (events ++ more) token next holds reply stands);
      same_cells = refl;
      noted = the_finished config openings before state played (events ++ more) token next holds reply stands ∷ [];
      right = (handed_right config openings before state played (events ++ more) token next holds reply stands, tt);
      handed = (
        handed_after config old state more (Hand token.worker ∷ []) (the_finished config openings before state played (events ++ more) token next holds reply stands) leads.runs
            (is_handed config openings before state played (events ++ more) token next holds reply stands),
        tt,
      );
      own = (is_own config openings before state played (events ++ more) token next holds reply stands, tt);
      ends = is_noted config openings before state played (events ++ more) token next holds reply stands;
      few = is_few config openings before state played (events ++ more) token next holds reply stands;
      fresh = λ other over. is_fresh config openings before state played (events ++ more) token next holds reply stands other (over_on config old state token.worker more leads other over);
      over = (handed_over config openings before state played (events ++ more) token next holds reply stands, tt);
    }

-- A step, then the hand-out of the reply if it is there, after what the worker did before.
pub steps : (config : Config) (openings : ℕ → TenantStart) (before : List WorldEvent) (old state : State) (played : IsExecution config openings before state) (events some : List WorldEvent) (token : WorkerToken) (actor : ActorState)
    (got : Got) → Leads config old token.worker state some → Holds config openings state (events ++ some) token → token.actor ≡ Some actor → replied actor ≡ None → may_make config (asks actor) ≡ true
    → observation_of (place (asks actor)) got ≡ observation_after (asks actor) state.cells
    → Reached config openings old token.worker events ((some ++ Step token.worker ∷ []) ++ hand_out token.worker (replied (actor_after got token.attempt actor))) (told_as got token (Some actor)) (cells_after (asks actor) state.cells) (Notes got token actor [])
steps config openings before old state played events some token actor got leads holds carries running there told =
    let after = after_step state token.worker actor in
    let made = step_leads config openings before state played token.worker actor (holds.actor ∙ carries) running there in
    let later = played_on config openings before state played token.worker after (Step token.worker ∷ []) made in
    let held : WorkerToken = stepped got token actor in
    settles config openings (before ++ Step token.worker ∷ []) old after later events (some ++ Step token.worker ∷ []) held (actor_after got token.attempt actor)
    (leads_on config old state after token.worker some (Step token.worker ∷ []) leads made)
    (subst (λ all. Holds config openings after all (record held { actor = Some (actor_after got token.attempt actor) })) (append_assoc events some (Step token.worker ∷ []))
    (step_holds config openings before state played (events ++ some) token actor carries holds got running there told))

-- A request comes.
module _ (config : Config) (openings : ℕ → TenantStart) (state : State) (events : List WorldEvent) (token : WorkerToken) (tenant : ℕ) (job : Job) (idle : token.actor ≡ None) (low : tenant < tenants_of config)
    (may_ask : is_well_formed (tenant_at config tenant).words job ≡ true) (holds : Holds config openings state events token) where
  may : may_come config state token.worker tenant job ≡ true
  may = by_tests (nat_lt token.worker config.workers) (nat_lt tenant (tenants_of config)) (is_none (state.worker_states token.worker).actor) (is_well_formed (tenant_at config tenant).words job)
      (is_low token.worker config.workers holds.there) (is_low tenant (tenants_of config) low) (ap is_none (holds.actor ∙ idle)) may_ask
    where
      is_low : (n m : ℕ) → n < m → nat_lt n m ≡ true
      is_low n m lt = grind (arith, nat_tests, lt)

      by_tests : (a b c d : Bool) → a ≡ true → b ≡ true → c ≡ true → d ≡ true → (a && b && c && d) ≡ true
      by_tests a b c d p q r s = λ i. p i && q i && r i && s i

  pub come_leads : Leads config state token.worker (after_come config state token.worker tenant job) (Come token.worker tenant job ∷ [])
  come_leads = record {
    runs = ap (λ (test : Bool). option_and_then (λ last. Some last) (if test then Some (after_come config state token.worker tenant job) else None)) may;
    others = λ other apart. upd_else state.worker_states token.worker other _ apart;
    quiet = λ other apart. no_worker_event token.worker other Came apart;
    no_starts = (tt, tt);
    gifts = λ other. one_gift state.tenant_states tenant _ (record { quota = refl; places = refl; is_up = refl; asked = omega arith }) other;
    own = λ after sits.
        let actor = first token.worker tenant (state.tenant_states tenant).quota config.pool job in
        let worker_state = upd_here state.worker_states token.worker (begun (state.worker_states token.worker) actor (state.tenant_states tenant).asked) in
        let its = same_Some actor after (sym (ap (λ (one : WorkerState). one.actor) worker_state) ∙ sits) in
        inr (subst (λ n. (state.tenant_states after.tenant).asked ≤ n) (sym (ap (λ (one : WorkerState). one.request) worker_state))
        (no_fewer (state.tenant_states after.tenant).asked (state.tenant_states tenant).asked (ap (λ (one : ActorState). (state.tenant_states one.tenant).asked) (sym its))));
  }

  pub come_holds : Holds config openings (after_come config state token.worker tenant job) (events ++ Come token.worker tenant job ∷ [])
      (comes (first token.worker tenant (state.tenant_states tenant).quota config.pool job) (state.tenant_states tenant).asked (length (sealed_of openings state tenant)) token)
  come_holds =
      let own = upd_here state.worker_states token.worker (begun (state.worker_states token.worker) (first token.worker tenant (state.tenant_states tenant).quota config.pool job) (state.tenant_states tenant).asked) in
      record {
        there = holds.there;
        actor = ap (λ (worker_state : WorkerState). worker_state.actor) own;
        attempt = ap (λ (worker_state : WorkerState). worker_state.attempt) own ∙ holds.attempt;
        request = ap (λ (worker_state : WorkerState). worker_state.request) own;
        made = made_on token.worker events (Come token.worker tenant job ∷ []) ∙ ap (λ made. events_of_worker token.worker events ++ made) (own_worker_event token.worker Came) ∙ ap (λ made. made ++ Came ∷ []) holds.made;
        begun = record {
          sealed = length (sealed_of openings state tenant);
          no_fewer = omega arith;
          came = requests_begin config openings state (after_come config state token.worker tenant job) token.worker tenant job
              (one_event config state (after_come config state token.worker tenant job) (Come token.worker tenant job) come_leads.runs);
        };
        evidence = first_with_evidence token (state.tenant_states tenant).asked (length (sealed_of openings state tenant)) tenant (state.tenant_states tenant).quota config.pool job;
      }
