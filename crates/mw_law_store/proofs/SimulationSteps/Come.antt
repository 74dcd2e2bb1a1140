-- Each tenant's store alone simulates a request that comes: its own store is asked, and another tenant's store stays.
-- Used by: mw_law_threads.
use Rattle.std.specs.Prelude.{ℕ, ◌≡◌, ◌≢◌, ◌<◌, ◌&&◌, true, false, is_none, nat_lt, Some}
use Rattle.std.proofs.Common.{refl, sym, ap, subst, ◌∙◌, inl, inr}
use Rattle.std.proofs.lemmas.Bool.{cases_eq}
use Rattle.std.proofs.lemmas.Option.{same_Some}
use Rattle.mw_words.specs.declared.jobs.Job.{Job}
use Rattle.mw_words.specs.declared.jobs.Job.TheVariants.{Get, Cas}
use Rattle.mw_words.specs.Change.{is_well_formed}
use Rattle.mw_lone.specs.declared.marks.Mark.TheVariants.{Ask}
use Rattle.mw_lone.specs.Store.{Store}
use Rattle.mw_actor.specs.ActorState.{ActorState, first, first_point}
use Rattle.mw_world.specs.declared.config.Config.{Config}
use Rattle.mw_world.specs.Definition.Events.{Come}
use Rattle.mw_world.specs.Definition.Requests.{came}
use Rattle.mw_world.specs.Definition.State.{State, WorkerState, TenantState, TenantStart, tenant_at, tenants_of}
use Rattle.mw_world.specs.Definition.World.{come, may_come}
use Rattle.mw_law_runs.proofs.Knowledge.Updates.Preservation.{upd_here, upd_else}
use Rattle.mw_law_runs.proofs.GuardedEvents.{guarded, second_holds}
use Rattle.mw_law_store.specs.Simulation.{IsSimulatedBy}
use Rattle.mw_law_store.specs.RelaxedSteps.{NoLabel, Says}
use Rattle.mw_law_store.specs.ReservedPlaces.{keeps}
use Rattle.mw_law_store.proofs.Aside.{came_aside, owns_are_claimed}
use Rattle.mw_law_store.proofs.Arrivals.{came_refines}
use Rattle.mw_law_store.proofs.SimulationSteps.Met.{Met, met, mine_none}
use Rattle.mw_law_store.proofs.ServiceLaws.{IsWithFactsWorld}

-- a request that begins has no reserved place
begins_without : (tenant : ℕ) (job : Job) → keeps (first_point tenant job) ≡ false
begins_without tenant (Get address) = refl
begins_without tenant (Cas entries) = refl

module _ (config : Config) (openings : ℕ → TenantStart) (state : State) (worker : ℕ) (job : Job) (tenant : ℕ) (store : Store) (with_facts : IsWithFactsWorld config state) (low : tenant < tenants_of config)
    (simulated : IsSimulatedBy openings state tenant store) where
  -- the worker's request has no reserved place then
  keeps_none : (asked : ℕ) (actor : ActorState) → ((came config state worker asked job).worker_states worker).actor ≡ Some actor → keeps actor.point ≡ false
  keeps_none asked actor is =
      let began = first worker asked (state.tenant_states asked).quota config.pool job in
      ap (λ (a : ActorState). keeps a.point) (sym (same_Some began actor (sym (ap (λ (s : WorkerState). s.actor) (upd_here state.worker_states worker _)) ∙ is))) ∙ begins_without asked job

  -- for its tenant
  asks_met : is_well_formed (tenant_at config tenant).words job ≡ true → Met openings state (came config state worker tenant job) (Come worker tenant job) tenant store
  asks_met formed =
      let next = came config state worker tenant job in
      let n = (state.tenant_states tenant).asked in
      let at : next.tenant_states tenant ≡ _ = upd_here state.tenant_states tenant _ in
      let closed = ap (λ (a : TenantState). a.closed) at in
      let lines = ap (λ (a : TenantState). a.lines) at in
      let long = (with_facts.files.told tenant low).long in
      let there = came_refines config state worker tenant job store (ap (λ (many : ℕ). is_well_formed many job) long ∙ formed) simulated.refines in
      let others : (other : ℕ) → other ≢ worker → next.worker_states other ≡ state.worker_states other = λ other apart. upd_else state.worker_states worker other _ apart in
      met openings state next (Come worker tenant job) worker tenant store simulated (Says (Ask n job)) there.0 closed lines tt there.1 (λ fresh. there.1) others
      (λ other actor apart is looks misses placed. placed) tt there.2 (λ fresh. refl) (λ fresh legal. tt)
      (λ actor is same. mine_none openings state next (Come worker tenant job) worker tenant store simulated (Says (Ask n job)) there.0 closed lines tt there.1 (λ fresh. there.1) others
      (λ other actor apart is looks misses placed. placed) tt actor (keeps_none tenant actor is))

  -- for another tenant
  aside_met : (asked : ℕ) → asked ≢ tenant → Met openings state (came config state worker asked job) (Come worker asked job) tenant store
  aside_met asked differ =
      let next = came config state worker asked job in
      let at : next.tenant_states tenant ≡ state.tenant_states tenant = upd_else state.tenant_states asked tenant _ (λ same. differ (sym same)) in
      let closed = ap (λ (a : TenantState). a.closed) at in
      let lines = ap (λ (a : TenantState). a.lines) at in
      let refines = came_aside config state worker asked tenant job store differ (owns_are_claimed config state tenant with_facts.sound) simulated.refines in
      let others : (other : ℕ) → other ≢ worker → next.worker_states other ≡ state.worker_states other = λ other apart. upd_else state.worker_states worker other _ apart in
      met openings state next (Come worker asked job) worker tenant store simulated NoLabel store closed lines tt refl (λ fresh. refl) others
      (λ other actor apart is looks misses placed. placed) tt refines (λ fresh. refl) (λ fresh legal. tt)
      (λ actor is same. mine_none openings state next (Come worker asked job) worker tenant store simulated NoLabel store closed lines tt refl (λ fresh. refl) others
      (λ other actor apart is looks misses placed. placed) tt actor (keeps_none asked actor is))

  came_met : (asked : ℕ) → is_well_formed (tenant_at config asked).words job ≡ true → Met openings state (came config state worker asked job) (Come worker asked job) tenant store
  came_met asked formed = elim (cases_eq asked tenant) [
    | inl same ↦ subst (λ (n : ℕ). Met openings state (came config state worker n job) (Come worker n job) tenant store) (sym same)
        (asks_met (ap (λ (n : ℕ). is_well_formed (tenant_at config n).words job) (sym same) ∙ formed))
    | inr differ ↦ aside_met asked differ
  ]

pub come_met : (config : Config) (openings : ℕ → TenantStart) (state next : State) (worker asked : ℕ) (job : Job) (tenant : ℕ) (store : Store) → IsWithFactsWorld config state → tenant < tenants_of config
    → IsSimulatedBy openings state tenant store → come config state worker asked job ≡ Some next → Met openings state next (Come worker asked job) tenant store
come_met config openings state next worker asked job tenant store with_facts low simulated is =
    guarded (λ (one : State). Met openings state one (Come worker asked job) tenant store) (may_come config state worker asked job) (came config state worker asked job) next
    (λ may. came_met config openings state worker job tenant store with_facts low simulated asked
    (second_holds (nat_lt worker config.workers && nat_lt asked (tenants_of config) && is_none (state.worker_states worker).actor) (is_well_formed (tenant_at config asked).words job) may)) is
