-- After every run some store alone simulates a tenant, of which AnsweredRequests and StoresInDoubt hold too.
-- Used by: RefusedChangeLaws, WholeChangeLaws.
use Rattle.std.specs.Prelude.{ℕ, ◌≡◌, ◌<◌, false, ◌++◌, List, [], ◌∷◌, length, slice_get, Option, Some, None}
use Rattle.std.proofs.Common.{refl, sym, ap, ◌∙◌, inl, inr, arith}
use Rattle.std.proofs.lemmas.Option.{none-some}
use Rattle.mw_words.specs.declared.replies.Reply.{Reply}
use Rattle.mw_lone.specs.Store.{Store, RequestState, request}
use Rattle.mw_world.specs.Files.Restarts.{opened_file}
use Rattle.mw_world.specs.declared.config.Config.{Config}
use Rattle.mw_world.specs.Claim.Headline.{IsExecution}
use Rattle.mw_world.specs.Definition.Events.{WorldEvent, Come, Step, File, Hand, Restart}
use Rattle.mw_world.specs.Definition.Restarts.{restarted}
use Rattle.mw_world.specs.Definition.State.{State, TenantStart, tenants_of, world_at}
use Rattle.mw_world.specs.Definition.World.{outgoing, replies_to, step}
use Rattle.mw_law_runs.proofs.Counts.Startable.{may_start}
use Rattle.mw_law_runs.proofs.GuardedEvents.{guarded}
use Rattle.mw_law_store.specs.Worn.{is_worn_reply}
use Rattle.mw_law_store.proofs.Beginnings.{played_by_events, replies_last, run_last}
use Rattle.mw_law_store.proofs.RunSimulation.{events_are_simulated, runs_are_simulated}
use Rattle.mw_law_store.proofs.SimulationSteps.Started.{starts_simulated}
use Rattle.mw_law_store.specs.History.{IsNoStart}
use Rattle.mw_law_store.specs.Simulation.{IsSimulated, IsSimulatedBy, start_of}
use Rattle.mw_law_threads.proofs.Whole.AnsweredRequests.{IsAnswered, at_last, gone_after, hands_out, said_now, stays_answered}
use Rattle.mw_law_threads.proofs.Whole.StoresInDoubt.{HasFault, fault_stays}

pub record IsSimulatedSo (config : Config) (openings : ℕ → TenantStart) (events : List WorldEvent) (state : State) (tenant : ℕ) : Type 0 where
  pub store : Store
  pub simulated : IsSimulatedBy openings state tenant store
  pub fault : HasFault store
  pub said : (index n : ℕ) (reply : Reply) → slice_get (replies_to config tenant (world_at config openings) events) index ≡ Some (n, reply) → is_worn_reply reply ≡ false → IsAnswered store n reply

module _ (config : Config) (openings : ℕ → TenantStart) (tenant : ℕ) (low : tenant < tenants_of config) where
  abbrev first : State
  first = world_at config openings

  abbrev IsSo : List WorldEvent → State → Type 0
  IsSo before now = IsSimulatedSo config openings before now tenant

  abbrev said_by : List WorldEvent → List (ℕ × Reply)
  said_by before = replies_to config tenant first before

  at_first : IsSimulated openings first tenant → IsSo [] first
  at_first by = record { store = by.store; simulated = by.simulated; fault = inl (sym by.simulated.refines.holds.in_doubt); said = λ index n reply is not_worn. absurd (none-some (n, reply) is) }

  stays : (before : List WorldEvent) (event : WorldEvent) (now next : State) → IsExecution config openings before now → IsSo before now → IsNoStart event → step config now event ≡ Some next → IsSo (before ++ event ∷ []) next
  stays before event now next so_far has no_start is =
      let on = events_are_simulated config openings before now next event tenant has.store so_far low has.simulated no_start is in
      let numbered = has.simulated.refines.holds.numbered in
      let lines = (now.tenant_states tenant).lines in
      record {
        store = on.after;
        simulated = on.simulated;
        fault = fault_stays has.store on.after numbered (start_of openings now tenant) lines on.says on.may on.goes has.fault;
        said = λ index n reply at not_worn.
            stays_answered has.store on.after numbered n reply (start_of openings now tenant) lines on.says on.may on.goes
            (elim (at_last (said_by before) (outgoing now tenant event) index (n, reply) (ap (λ all. slice_get all index) (sym (replies_last config tenant first now before event so_far.runs)) ∙ at)) [
              | inl earlier ↦ has.said index n reply earlier not_worn
              | inr new ↦ inl (said_now openings now tenant has.store n reply has.simulated (hands_out now tenant n event reply new) not_worn)
            ]);
      }

  opened_none : (words : List ℕ) (fails_at : Option ℕ) → (opened_file words fails_at).doubt ≡ []
  opened_none words None = refl
  opened_none words (Some number) = refl

  -- right after a start a tenant has no change in doubt and no line, and the numbers go on
  record IsStarted (now one : State) : Type 0 where
    none : (one.tenant_states tenant).file.doubt ≡ []
    lines : (one.tenant_states tenant).lines ≡ []
    next : (one.tenant_states tenant).asked ≡ (now.tenant_states tenant).asked

  -- it has no request then
  none_there : (next : State) (by : IsSimulated openings next tenant) → (next.tenant_states tenant).lines ≡ [] → (n : ℕ) (o : Option RequestState) → request by.store n ≡ o → request by.store n ≡ None
  none_there next by no_lines n None at = at
  none_there next by no_lines n (Some r) at =
      let asked = by.simulated.history_match.asked n r at in
      let long : length (next.tenant_states tenant).lines ≡ 0 = ap length no_lines in
      let before = asked.before in absurd (omega (arith, before, long))

  starts : (before : List WorldEvent) (founds : _) (now next : State) → IsExecution config openings before now → IsSo before now → step config now (Restart founds) ≡ Some next → IsSo (before ++ Restart founds ∷ []) next
  starts before founds now next so_far has is =
      let after : IsExecution config openings (before ++ Restart founds ∷ []) next =
      record { made = so_far.made; starts = so_far.starts; runs = run_last config first now next before (Restart founds) so_far.runs is } in
      let by = runs_are_simulated config openings (before ++ Restart founds ∷ []) next tenant after low in
      let started : IsStarted now next = guarded (IsStarted now) (may_start config now founds) (restarted config now founds) next (λ may. record { none = opened_none _ _; lines = refl; next = refl }) is in
      let was = has.simulated.refines.holds.next in
      let will = by.simulated.refines.holds.next in
      let goes_on = started.next in
      record {
        store = by.store;
        simulated = by.simulated;
        fault = inl (sym by.simulated.refines.holds.in_doubt ∙ started.none);
        said = λ index n reply at not_worn.
            gone_after has.store by.store n reply has.simulated.refines.holds.numbered (omega (arith, was, will, goes_on)) (none_there next by started.lines n (request by.store n) refl)
            (elim (at_last (said_by before) None index (n, reply) (ap (λ all. slice_get all index) (sym (replies_last config tenant first now before (Restart founds) so_far.runs)) ∙ at)) [
              | inl earlier ↦ has.said index n reply earlier not_worn
              | inr new ↦ absurd (none-some (n, reply) new)
            ]);
      }

  by_event : (before : List WorldEvent) (event : WorldEvent) (now next : State) → IsExecution config openings before now → IsSo before now → step config now event ≡ Some next → IsSo (before ++ event ∷ []) next
  by_event before (Come worker other job) now next so_far has is = stays before (Come worker other job) now next so_far has tt is
  by_event before (Step worker) now next so_far has is = stays before (Step worker) now next so_far has tt is
  by_event before (File worker outcome) now next so_far has is = stays before (File worker outcome) now next so_far has tt is
  by_event before (Hand worker) now next so_far has is = stays before (Hand worker) now next so_far has tt is
  by_event before (Restart founds) now next so_far has is = starts before founds now next so_far has is

  pub simulated_so : (events : List WorldEvent) (state : State) → IsExecution config openings events state → IsSo events state
  simulated_so events state played =
      played_by_events config openings IsSo (at_first (starts_simulated config openings tenant played.starts low)) by_event events state played
