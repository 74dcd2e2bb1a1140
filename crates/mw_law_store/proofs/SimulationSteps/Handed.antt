-- Each tenant's store alone simulates a reply that is handed out: its own store hands out the same, and another tenant's
-- store stays.
-- Used by: mw_law_threads.
use Rattle.std.specs.Prelude.{ℕ, ◌≡◌, ◌≢◌, ◌==◌, Bool, true, false, if◌then◌else◌, Option, Some, None}
use Rattle.std.specs.Option.{option_and_then, option_map}
use Rattle.std.proofs.Common.{refl, sym, ap, subst, ◌∙◌, inl, inr, arith}
use Rattle.std.proofs.lemmas.Bool.{cases_eq}
use Rattle.std.proofs.lemmas.Bool.Decides.{nat_tests}
use Rattle.std.proofs.lemmas.Option.{same_Some, none-some}
use Rattle.mw_words.specs.declared.jobs.Job.{Job}
use Rattle.mw_words.specs.declared.replies.Reply.{Reply}
use Rattle.mw_lone.specs.declared.marks.Mark.TheVariants.{Reply as HandOut}
use Rattle.mw_lone.specs.Store.{Store, RequestState, request, due_reply, outgoing as outgoing_mark}
use Rattle.mw_law_store.specs.Late.MarkEffects.{HandsOut}
use Rattle.mw_look.specs.declared.points.Point.{Point as ReadPoint}
use Rattle.mw_look.specs.declared.points.Point.TheVariants.{Replied as RepliedOfRead}
use Rattle.mw_look.specs.Program.{reply_at as read_reply_at}
use Rattle.mw_actor.specs.declared.points.Point.{Point}
use Rattle.mw_actor.specs.declared.points.Point.TheVariants.{Read, Replied}
use Rattle.mw_actor.specs.ActorState.{ActorState}
use Rattle.mw_actor.specs.Program.{replied, reply_at}
use Rattle.mw_world.specs.declared.config.Config.{Config}
use Rattle.mw_world.specs.Definition.Events.{Hand}
use Rattle.mw_world.specs.Definition.Requests.{gave}
use Rattle.mw_world.specs.Definition.State.{State, WorkerState, TenantState, TenantStart}
use Rattle.mw_world.specs.Definition.World.{hand, handed, outgoing, reply_for}
use Rattle.mw_law_runs.proofs.Knowledge.Updates.Preservation.{upd_here, upd_else}
use Rattle.mw_law_store.specs.Simulation.{IsSimulatedBy}
use Rattle.mw_law_store.specs.RelaxedSteps.{NoLabel, Says, HandsAny}
use Rattle.mw_law_store.specs.Refinement.{is_live, told_of, changes_of_tenant, IsDue, HasReply, Refines}
use Rattle.mw_law_store.specs.Worn.{NoneIsWorn, is_worn_at, is_worn_read, is_worn_reply}
use Rattle.mw_law_store.proofs.Aside.{gave_aside, owns_are_claimed}
use Rattle.mw_law_store.proofs.Arrivals.{gave_refines, has_reply, replied_due}
use Rattle.mw_law_store.proofs.Marks.{row_of}
use Rattle.mw_law_store.proofs.SimulationSteps.Met.{Met, met}
use Rattle.mw_law_store.proofs.ServiceLaws.{IsWithFactsWorld}

-- a request that replies WORN was on the way to it
worn_read : (point : ReadPoint) (reply : Reply) → read_reply_at point ≡ Some reply → is_worn_read point ≡ is_worn_reply reply
worn_read (RepliedOfRead said) reply is = ap is_worn_reply (same_Some said reply is)
worn_read point reply is = absurd (none-some reply is)

worn_reply : (point : Point) (reply : Reply) → reply_at point ≡ Some reply → is_worn_at point ≡ is_worn_reply reply
worn_reply (Read look) reply is = worn_read look.point reply is
worn_reply (Replied said) reply is = ap is_worn_reply (same_Some said reply is)
worn_reply point reply is = absurd (none-some reply is)

-- the store hands out the reply that the request has
gives_out : (store : Store) (n : ℕ) (job : Job) (reply : Reply) → HasReply (request store) n job reply → outgoing_mark store (HandOut n) ≡ Some (n, reply)
gives_out store n job reply has =
    ap (λ (r : Option RequestState). option_map (λ (said : Reply). (n, said)) (option_and_then due_reply r)) has.is_asked
    ∙ ap (λ (test : Bool). option_map (λ (said : Reply). (n, said)) (if test then None else has.found.placed)) has.not_handed
    ∙ ap (λ (said : Option Reply). option_map (λ (one : Reply). (n, one)) said) has.has_reply

module _ (config : Config) (openings : ℕ → TenantStart) (state : State) (worker : ℕ) (actor : ActorState) (reply : Reply) (sits : (state.worker_states worker).actor ≡ Some actor) (stands : replied actor ≡ Some reply)
    (tenant : ℕ) (store : Store) (with_facts : IsWithFactsWorld config state) (simulated : IsSimulatedBy openings state tenant store) where
  abbrev n : ℕ
  n = (state.worker_states worker).request

  nobody : (its : ℕ) (one : ActorState) → ((gave state worker its).worker_states worker).actor ≡ Some one → ⊥
  nobody its one is = none-some one (sym (ap (λ (s : WorkerState). s.actor) (upd_here state.worker_states worker _)) ∙ is)

  -- what the world hands out to the tenant, and to another one
  its_given : actor.tenant ≡ tenant → outgoing state tenant (Hand worker) ≡ Some (n, reply)
  its_given same =
      let test : (actor.tenant == tenant) ≡ true = grind (arith, nat_tests, same) in
      ap (reply_for state tenant worker) sits
      ∙ ap (λ (b : Bool). if b then option_map (λ (said : Reply). (n, said)) (replied actor) else None) test
      ∙ ap (λ (said : Option Reply). option_map (λ (one : Reply). (n, one)) said) stands

  none_given : actor.tenant ≢ tenant → outgoing state tenant (Hand worker) ≡ None
  none_given differ =
      let test : (actor.tenant == tenant) ≡ false = grind (arith, nat_tests, differ) in
      ap (reply_for state tenant worker) sits
      ∙ ap (λ (b : Bool). if b then option_map (λ (said : Reply). (n, said)) (replied actor) else None) test

  not_worn : NoneIsWorn state → is_worn_reply reply ≡ false
  not_worn fresh = sym (worn_reply actor.point reply stands) ∙ fresh.points worker actor sits

  -- the store has the reply
  has : actor.tenant ≡ tenant → NoneIsWorn state → HasReply (request store) n actor.job reply
  has same fresh =
      let row = row_of (is_live state.cells) (changes_of_tenant state.history tenant) (told_of state.history) state.worker_states tenant (request store) simulated.refines.asks worker actor sits same in
      has_reply (request store) n actor.job reply (not_worn fresh) (subst (IsDue (request store) n actor.job) (replied_due actor.point reply stands) row.is_due)

  -- for its tenant
  its_met : actor.tenant ≡ tenant → Met openings state (gave state worker tenant) (Hand worker) tenant store
  its_met same =
      let next = gave state worker tenant in
      let at : next.tenant_states tenant ≡ _ = upd_here state.tenant_states tenant _ in
      let there = subst (λ (its : ℕ). Refines state its store → (t : Store) × HandsAny store n t × (is_worn_reply reply ≡ false → HandsOut store n t) × Refines (gave state worker its) its t) same
      (gave_refines state worker actor reply store sits stands) simulated.refines in
      met openings state next (Hand worker) worker tenant store simulated (Says (HandOut n)) there.0 (ap (λ (a : TenantState). a.closed) at) (ap (λ (a : TenantState). a.lines) at) tt there.1
      (λ fresh. there.2 (not_worn fresh)) (λ other apart. upd_else state.worker_states worker other _ apart) (λ other one apart is looks misses placed. placed) tt there.3
      (λ fresh. gives_out store n actor.job reply (has same fresh) ∙ sym (its_given same)) (λ fresh legal. tt)
      (λ one is of_it. absurd (nobody tenant one is))

  -- for another tenant
  aside_met : actor.tenant ≢ tenant → Met openings state (gave state worker actor.tenant) (Hand worker) tenant store
  aside_met differ =
      let next = gave state worker actor.tenant in
      let at : next.tenant_states tenant ≡ state.tenant_states tenant = upd_else state.tenant_states actor.tenant tenant _ (λ same. differ (sym same)) in
      met openings state next (Hand worker) worker tenant store simulated NoLabel store (ap (λ (a : TenantState). a.closed) at) (ap (λ (a : TenantState). a.lines) at) tt refl (λ fresh. refl)
      (λ other apart. upd_else state.worker_states worker other _ apart) (λ other one apart is looks misses placed. placed) tt
      (gave_aside state worker actor.tenant tenant store differ (owns_are_claimed config state tenant with_facts.sound) simulated.refines)
      (λ fresh. sym (none_given differ)) (λ fresh legal. tt)
      (λ one is of_it. absurd (nobody actor.tenant one is))

  gave_met : Met openings state (gave state worker actor.tenant) (Hand worker) tenant store
  gave_met = elim (cases_eq actor.tenant tenant) [
    | inl same ↦ subst (λ (its : ℕ). Met openings state (gave state worker its) (Hand worker) tenant store) (sym same) (its_met same)
    | inr differ ↦ aside_met differ
  ]

pub hand_met : (config : Config) (openings : ℕ → TenantStart) (state next : State) (worker tenant : ℕ) (store : Store) → IsWithFactsWorld config state → IsSimulatedBy openings state tenant store
    → hand state worker (state.worker_states worker).actor ≡ Some next → Met openings state next (Hand worker) tenant store
hand_met config openings state next worker tenant store with_facts simulated is = by_worker_state (state.worker_states worker).actor refl is
  where
    by_reply : (actor : ActorState) (said : Option Reply) → (state.worker_states worker).actor ≡ Some actor → replied actor ≡ said → handed state worker actor.tenant said ≡ Some next → Met openings state next (Hand worker) tenant store
    by_reply actor None sits stands gives = absurd (none-some next gives)
    by_reply actor (Some reply) sits stands gives = subst (λ (one : State). Met openings state one (Hand worker) tenant store) (same_Some (gave state worker actor.tenant) next gives)
        (gave_met config openings state worker actor reply sits stands tenant store with_facts simulated)

    by_worker_state : (found : Option ActorState) → (state.worker_states worker).actor ≡ found → hand state worker found ≡ Some next → Met openings state next (Hand worker) tenant store
    by_worker_state None sits gives = absurd (none-some next gives)
    by_worker_state (Some actor) sits gives = by_reply actor (replied actor) sits refl gives
