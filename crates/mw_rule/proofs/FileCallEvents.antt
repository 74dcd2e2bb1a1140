-- A call on a tenant's file is one event of one worker. After it, what the worker's token (ghost knowledge of its request)
-- says is true. Used by: FileCallRule.
use Rattle.std.specs.Prelude.{ℕ, ◌≡◌, List, [], ◌∷◌, ◌++◌, Bool, Option, Some}
use Rattle.std.specs.Option.{option_and_then}
use Rattle.std.proofs.lemmas.Option.{none-some}
use Rattle.std.proofs.Common.{refl, sym, ap, subst, ◌∙◌, inl, arith}
use Rattle.mw_look.specs.declared.observations.Got.TheVariants.{File as GotFile}
use Rattle.mw_look.specs.declared.observations.Observation.{Observation}
use Rattle.mw_look.specs.declared.observations.Observation.TheVariants.{Filed}
use Rattle.mw_look.specs.Observations.{observation_of}
use Rattle.mw_look.specs.Steps.{Step, op_of, place}
use Rattle.mw_actor.specs.ActorState.{ActorState}
use Rattle.mw_actor.specs.Asks.{asks}
use Rattle.mw_actor.specs.Program.{goes, tells}
use Rattle.mw_world.specs.declared.outcomes.Outcome.{Outcome}
use Rattle.mw_world.specs.declared.config.Config.{Config}
use Rattle.mw_world.specs.Claim.Headline.{IsExecution}
use Rattle.mw_world.specs.Definition.Calls.{Called as CallOn, call, called_at}
use Rattle.mw_world.specs.Definition.Events.{WorldEvent, File as FileEvent}
use Rattle.mw_world.specs.Definition.State.{State, TenantStart, WorkerState}
use Rattle.mw_world.specs.Definition.Turns.{Made, moved}
use Rattle.mw_world.specs.Definition.World.{run}
use Rattle.mw_rule.proofs.Calls.WorldAfterCalls.{requests_go_on_from_calls}
use Rattle.mw_rule.proofs.FromLaws.{on_with, requests_stay_begun, upd_else, upd_here}
use Rattle.mw_rule.specs.declared.views.WorkerEvent.TheVariants.{Called}
use Rattle.mw_rule.specs.declared.views.WorkerToken.{WorkerToken}
use Rattle.mw_rule.specs.FileCalls.{went, went_as}
use Rattle.mw_rule.specs.Rule.{HasEvidenceFor, Holds, events_of_worker}
use Rattle.mw_rule.specs.Evidence.{HasEvidenceAt}
use Rattle.mw_rule.specs.Prefixes.{CameAfter, HasBegunFor}
use Rattle.mw_rule.proofs.EvidenceSteps.{evidence_on}
use Rattle.mw_rule.proofs.WorkerStretches.{Leads, made_on, no_fewer, one_gift}
use Rattle.mw_rule.proofs.RequestEvents.{Reached, no_worker_event, own_worker_event, same_request}

-- A call that happens in this world, with this outcome.
module _ (config : Config) (openings : ℕ → TenantStart) (before : List WorldEvent) (state : State) (played : IsExecution config openings before state)
    (worker : ℕ) (outcome : Outcome) (actor : ActorState) (sits : (state.worker_states worker).actor ≡ Some actor) (made : Made)
    (happens : call config state worker (state.worker_states worker).actor outcome ≡ Some (moved state worker actor made)) where
  call_runs : run config state (FileEvent worker outcome ∷ []) ≡ Some (moved state worker actor made)
  call_runs = ap (λ (next : Option State). option_and_then (λ one. Some one) next) happens

  pub call_leads : Leads config state worker (moved state worker actor made) (FileEvent worker outcome ∷ [])
  call_leads = record {
    runs = call_runs;
    others = λ other apart. upd_else state.worker_states worker other _ apart;
    quiet = λ other apart. no_worker_event worker other Called apart;
    no_starts = (tt, tt);
    gifts = λ tenant. one_gift state.tenant_states actor.tenant _ (record { quota = refl; places = refl; is_up = refl; asked = no_fewer _ _ refl }) tenant;
    own = λ next there.
        let same = on_with config state (moved state worker actor made) worker actor sits (FileEvent worker outcome) tt happens next there in inl (actor, sits, sym same.tenant, sym same.number);
  }

-- After the call, the worker's token has the call, and its request was told how it went.
module _ (config : Config) (openings : ℕ → TenantStart) (before : List WorldEvent) (state : State) (played : IsExecution config openings before state)
    (events : List WorldEvent) (token : WorkerToken) (actor : ActorState) (carries : token.actor ≡ Some actor) (called : CallOn) (comes_to : called_at actor.point ≡ Some called)
    (holds : Holds config openings state events token) (outcome : Outcome) (made : Made) (went_well : Bool) (is_told : made.observation ≡ Filed went_well)
    (happens : call config state token.worker (state.worker_states token.worker).actor outcome ≡ Some (moved state token.worker actor made)) where
  -- the evidence for the reply to which the request is on its way
  evidence_after : HasEvidenceFor (went_as went_well token (Some actor)) (Some (tells actor (Filed went_well) token.attempt))
  evidence_after whole =
      let evidence : HasEvidenceFor token (Some actor) = subst (HasEvidenceFor token) carries holds.evidence in
      let on = requests_go_on_from_calls actor called comes_to in
      let more = record { op = op_of (asks actor); got = GotFile went_well } ∷ [] in
      subst (λ (observation : Observation). HasEvidenceAt (token.found ++ more) token.attempt actor.tenant actor.quota (goes actor token.attempt actor.point observation))
      (ap (λ (step : Step). observation_of (place step) (GotFile went_well)) on.asked)
      (evidence_on token.found actor (GotFile went_well) token.attempt token.attempt actor.point (omega arith)
      (λ look is. absurd (none-some called (sym (ap called_at is) ∙ comes_to)))
      (λ door is its. absurd (none-some called (sym (ap called_at is) ∙ comes_to))) (evidence whole))

  call_holds : Holds config openings (moved state token.worker actor made) (events ++ FileEvent token.worker outcome ∷ []) (went_as went_well token (Some actor))
  call_holds =
      let sits = holds.actor ∙ carries in
      let on = requests_go_on_from_calls actor called comes_to in
      let after = moved state token.worker actor made in
      let own = upd_here state.worker_states token.worker _ in
      let next = tells actor (Filed went_well) token.attempt in
      let now : (after.worker_states token.worker).actor ≡ Some next =
      ap (λ (worker_state : WorkerState). worker_state.actor) own ∙ (λ i. Some (tells actor (is_told i) ((on.attempt (state.worker_states token.worker).attempt ∙ holds.attempt) i))) in
      let begun : CameAfter openings state token.worker actor token.begun = subst (HasBegunFor openings state token.worker token.begun) carries holds.begun in
      record {
        there = holds.there;
        actor = now;
        attempt = ap (λ (worker_state : WorkerState). worker_state.attempt) own ∙ on.attempt (state.worker_states token.worker).attempt ∙ holds.attempt;
        request = ap (λ (worker_state : WorkerState). worker_state.request) own ∙ same_request _ _ _ (state.worker_states token.worker) ∙ holds.request;
        made = made_on token.worker events (FileEvent token.worker outcome ∷ []) ∙ ap (λ made. events_of_worker token.worker events ++ made) (own_worker_event token.worker Called)
            ∙ ap (λ made. made ++ Called ∷ []) holds.made;
        begun = record {
          sealed = begun.sealed;
          no_fewer = begun.no_fewer;
          came = (requests_stay_begun config openings before state after (FileEvent token.worker outcome) token.worker actor next begun.sealed played begun.came tt happens now).1;
        };
        evidence = evidence_after;
      }

  -- The request has no reply then.
  pub calls : (reached : Reached config openings state token.worker events (FileEvent token.worker outcome ∷ []) (went went_well token) made.cells (λ noted. noted ≡ []))
      × (reached.after ≡ moved state token.worker actor made)
  calls = (
    record {
      after = moved state token.worker actor made;
      leads = call_leads config openings before state played token.worker outcome actor (holds.actor ∙ carries) made happens;
      holds = subst (λ (one : Option ActorState). Holds config openings (moved state token.worker actor made) (events ++ FileEvent token.worker outcome ∷ []) (went_as went_well token one)) (sym carries) call_holds;
      same_cells = refl;
      noted = [];
      right = tt;
      ends = refl;
      handed = tt;
      few = λ tenant request. omega arith;
      fresh = λ other over. refl;
      over = tt;
      own = tt;
    },
    refl,
  )
