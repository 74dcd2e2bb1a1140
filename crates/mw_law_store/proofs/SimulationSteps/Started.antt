-- At each start, the first or a later one, some store alone simulates each tenant, and tells the tenant's words and file.
-- Used by: mw_law_threads.
use Rattle.std.specs.Prelude.{ℕ, ◌≡◌, ◌++◌, Bool, List, [], ◌∷◌, is_none, Option, Some}
use Rattle.std.specs.FinMap as map
use Rattle.std.specs.Ordering.{nat_cmp}
use Rattle.std.proofs.Common.{refl, sym, ap, subst, ◌∙◌}
use Rattle.std.proofs.lemmas.Option.{none-some}
use Rattle.mw_lone.specs.declared.marks.Mark.{Mark}
use Rattle.mw_lone.specs.declared.marks.Mark.TheVariants.{Restart as IsRestart}
use Rattle.mw_lone.specs.Store.{Store, RequestState, request, new_store}
use Rattle.mw_law_store.specs.Late.MarkEffects.{Restarts}
use Rattle.mw_world.specs.declared.config.Config.{Config}
use Rattle.mw_world.specs.Definition.Events.{Found}
use Rattle.mw_world.specs.Definition.Restarts.{restart, restarted, found_of, quota_then, under_way, interrupted_request, doubt_then, takes}
use Rattle.mw_world.specs.Definition.State.{State, TenantState, TenantStart, started, marks_in, store_at, world_at}
use Rattle.mw_law_runs.proofs.Counts.Startable.{may_start}
use Rattle.mw_law_runs.proofs.GuardedEvents.{guarded}
use Rattle.mw_law_store.specs.Simulation.{start_of, IsSimulated, IsSimulatedBy, IsLegalTo}
use Rattle.mw_law_store.specs.ReservedPlaces.{Reserved}
use Rattle.mw_law_store.specs.Laws.{StartsAreSimulated, RestartsAreSimulated}
use Rattle.mw_law_store.specs.AbstractStates.{AbstractState, first_abstract_state, after_mark, after_marks, abstract_state_of}
use Rattle.mw_law_store.specs.HistoryMatches.{HistoryMatch}
use Rattle.mw_law_store.specs.Refinement.{Refines}
use Rattle.mw_law_store.proofs.DurabilityLaws.{marks_more}
use Rattle.mw_law_store.proofs.DecidedChangesFit.{decided_changes_fit}
use Rattle.mw_law_store.proofs.Legal.{whole_run, restart_legal, start_numbered}
use Rattle.mw_law_store.proofs.AbstractStateLaws.{lines_are_abstract_states}
use Rattle.mw_law_store.proofs.HistoryMatchLaws.{nothing_history_match}
use Rattle.mw_law_store.proofs.RestartSimulation.{restart_refines}
use Rattle.mw_law_store.proofs.ServiceLaws.{IsServed, StartsAreServed, RestartsAreServed, StoresAreShown, StoresAreLeft}
use Rattle.mw_law_store.proofs.StartSimulation.{first_refines, shows_store, leaves_in_doubt}
use Rattle.mw_law_store.proofs.StoresOfStates.{Tells, goes_tells}
use Rattle.mw_law_store.proofs.LastLines.{history_match_tells}

-- the abstract state after two lists of marks
pub marks_append : (now : AbstractState) (first rest : List Mark) → after_marks now (first ++ rest) ≡ after_marks (after_marks now first) rest
marks_append now [] rest = refl
marks_append now (mark ∷ first) rest = marks_append (after_mark now mark) first rest

-- a store without requests was asked nothing
nothing_asked : (store : Store) (n : ℕ) (r : RequestState) → store.requests ≡ map.empty → request store n ≡ Some r → ⊥
nothing_asked store n r empty is = none-some r (sym (map.get-empty nat_cmp n) ∙ ap (λ requests. map.get requests n) (sym empty) ∙ is)

-- an empty list of lines matches a store that was asked nothing since its last start
pub none_history_match : (start : AbstractState) (store : Store) → store.requests ≡ map.empty → Tells start store → HistoryMatch start [] store
none_history_match start store empty tells = nothing_history_match start store tells.words tells.doubt (λ n r is. nothing_asked store n r empty is)

-- at a start no worker has a reserved place
pub none_kept : (config : Config) (tenant_states : ℕ → TenantState) (tenant : ℕ) (start : AbstractState) → Reserved (started config tenant_states) tenant start
none_kept config tenant_states tenant start = record {
  each = λ worker actor is same. absurd (none-some actor is);
  apart = λ worker other actor another differ is too same its keeps holds. absurd (none-some actor is);
}

-- The first start.

first_simulated : (config : Config) (openings : ℕ → TenantStart) (tenant : ℕ) → IsSimulatedBy openings (world_at config openings) tenant (store_at (openings tenant))
first_simulated config openings tenant = record {
  refines = first_refines config openings tenant;
  history_match = none_history_match (first_abstract_state (openings tenant).words) (store_at (openings tenant)) refl
      (record { words = refl; doubt = refl; entries = λ n r is. absurd (nothing_asked (store_at (openings tenant)) n r refl is) });
  kept = none_kept config _ tenant (first_abstract_state (openings tenant).words);
}

pub starts_simulated : StartsAreSimulated
starts_simulated config openings tenant start low = record { store = store_at (openings tenant); simulated = first_simulated config openings tenant }

pub starts_served : StartsAreServed
starts_served config openings tenant start low = record {
  store = store_at (openings tenant);
  simulated = first_simulated config openings tenant;
  legal = record {
    base = store_at (openings tenant);
    closed = refl;
    numbered = start_numbered (new_store (openings tenant).words (openings tenant).quota) (openings tenant).words (openings tenant).is_up (openings tenant).quota;
    lines = refl;
    kept = λ worker actor is same. absurd (none-some actor is);
  };
}

-- Later starts.

module _ (config : Config) (openings : ℕ → TenantStart) (state : State) (founds : List Found) (tenant : ℕ) where
  abbrev tenant_state : TenantState
  tenant_state = state.tenant_states tenant

  abbrev found : Found
  found = found_of founds tenant

  abbrev cut : Option ℕ
  cut = interrupted_request (under_way config state found.interrupted)

  abbrev took : Bool
  took = takes tenant_state.file.contents (doubt_then tenant_state.file (under_way config state found.interrupted)) found.words

  abbrev opened : Bool
  opened = is_none found.fails_at

  abbrev told : ℕ
  told = quota_then tenant_state found

  -- the abstract state of the start, by the marks before it
  start_is : start_of openings (restarted config state founds) tenant ≡ after_mark (abstract_state_of (start_of openings state tenant) tenant_state.lines) (IsRestart cut took opened told)
  start_is =
      let first = first_abstract_state (openings tenant).words in
      marks_more first (tenant_state.closed ++ marks_in tenant_state.lines) (IsRestart cut took opened told)
      ∙ ap (λ (now : AbstractState). after_mark now (IsRestart cut took opened told))
      (marks_append first tenant_state.closed (marks_in tenant_state.lines) ∙ sym (lines_are_abstract_states (start_of openings state tenant) tenant_state.lines))

  restarted_simulated : (store after : Store) → IsSimulatedBy openings state tenant store → Restarts store cut took opened told after → Refines (restarted config state founds) tenant after
      → IsSimulatedBy openings (restarted config state founds) tenant after
  restarted_simulated store after simulated restarts refines = record {
    refines = refines;
    history_match = subst (λ (start : AbstractState). HistoryMatch start [] after) (sym start_is)
        (none_history_match (after_mark (abstract_state_of (start_of openings state tenant) tenant_state.lines) (IsRestart cut took opened told)) after (ap (λ (t : Store). t.requests) restarts.after)
        (goes_tells (abstract_state_of (start_of openings state tenant) tenant_state.lines) store after (IsRestart cut took opened told) restarts
        (history_match_tells (start_of openings state tenant) tenant_state.lines store simulated.history_match)));
    kept = none_kept config _ tenant (start_of openings (restarted config state founds) tenant);
  }

  restarted_legal : (store after : Store) → IsLegalTo openings state tenant store → Restarts store cut took opened told after → Refines (restarted config state founds) tenant after
      → IsLegalTo openings (restarted config state founds) tenant after
  restarted_legal store after legal restarts refines = record {
    base = after;
    closed = restart_legal (store_at (openings tenant)) store after (tenant_state.closed ++ marks_in tenant_state.lines) cut took opened told
        (whole_run (store_at (openings tenant)) legal.base tenant_state.closed (marks_in tenant_state.lines) legal.closed ∙ legal.lines) restarts;
    numbered = refines.holds.numbered;
    lines = refl;
    kept = λ worker actor is same. absurd (none-some actor is);
  }

  -- the world after a start is the one that was found
  by_start : (P : State → Type 0) (next : State) → (restart config state founds ≡ Some (restarted config state founds) → P (restarted config state founds)) → restart config state founds ≡ Some next → P next
  by_start P next there is =
      guarded (λ (one : State). restart config state founds ≡ Some one → P one) (may_start config state founds)
      (restarted config state founds) next (λ may so. there so) is is

pub restarts_simulated : RestartsAreSimulated
restarts_simulated config openings state next founds tenant store sound files world_facts low simulated is =
    by_start config openings state founds tenant (λ (one : State). IsSimulated openings one tenant) next
    (λ so.
    let there = restart_refines config state (restarted config state founds) founds tenant store decided_changes_fit sound files world_facts low simulated.refines so in
    record { store = there.0; simulated = restarted_simulated config openings state founds tenant store there.0 simulated there.1 there.2 }) is

pub restarts_served : RestartsAreServed
restarts_served config openings state next founds tenant with_facts low served is =
    by_start config openings state founds tenant (λ (one : State). IsServed openings one tenant) next
    (λ so.
    let there = restart_refines config state (restarted config state founds) founds tenant served.store decided_changes_fit with_facts.sound with_facts.files with_facts.world_facts low served.simulated.refines so in
    record {
      store = there.0;
      simulated = restarted_simulated config openings state founds tenant served.store there.0 served.simulated there.1 there.2;
      legal = restarted_legal config openings state founds tenant served.store there.0 served.legal there.1 there.2;
    }) is

-- What a store that simulates a tenant says.

pub stores_shown : StoresAreShown
stores_shown config state tenant store with_facts low refines is_up = shows_store config state tenant store with_facts.files low is_up refines

pub stores_left : StoresAreLeft
stores_left config state tenant store with_facts low refines = leaves_in_doubt config state tenant store with_facts.sound with_facts.files refines
