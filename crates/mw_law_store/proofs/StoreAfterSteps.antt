-- If a store alone steps as an event's label says, and all parts of the simulation hold after it, then it simulates the
-- event. Used by: Met.
use Rattle.std.specs.Prelude.{ℕ, ◌≡◌, List, Option}
use Rattle.std.proofs.Common.{sym, ap, subst}
use Rattle.mw_lone.specs.declared.marks.Mark.{Mark}
use Rattle.mw_lone.specs.Store.{Store}
use Rattle.mw_world.specs.Definition.Events.{WorldEvent}
use Rattle.mw_world.specs.Definition.State.{State, TenantStart}
use Rattle.mw_world.specs.Definition.World.{outgoing}
use Rattle.mw_law_store.specs.Simulation.{start_of, IsSimulatedBy, SimulatesStep}
use Rattle.mw_law_store.specs.RelaxedSteps.{StoreLabel, lines_after, RelaxedLabelStep, LabelStep, given_out}
use Rattle.mw_law_store.specs.ReservedPlaces.{Reserved}
use Rattle.mw_law_store.specs.Laws.{LabelsKeepHistoryMatch}
use Rattle.mw_law_store.specs.AbstractStates.{AbstractState, first_abstract_state, after_marks}
use Rattle.mw_law_store.specs.HistoryMatches.{HistoryMatch, MayBeLabeled}
use Rattle.mw_law_store.specs.Refinement.{Refines}
use Rattle.mw_law_store.specs.Worn.{NoneIsWorn}

module _ (recalls : LabelsKeepHistoryMatch) (openings : ℕ → TenantStart) (state next : State) (event : WorldEvent) (tenant : ℕ) (store after : Store) (says : StoreLabel)
    (closed : (next.tenant_states tenant).closed ≡ (state.tenant_states tenant).closed) (lines : (next.tenant_states tenant).lines ≡ lines_after says (state.tenant_states tenant).lines) where
  -- the last start is the same
  pub same_start : start_of openings next tenant ≡ start_of openings state tenant
  same_start = ap (λ (marks : List Mark). after_marks (first_abstract_state (openings tenant).words) marks) closed

  abbrev pub goes_on : IsSimulatedBy openings state tenant store → MayBeLabeled (start_of openings state tenant) (state.tenant_states tenant).lines says store → RelaxedLabelStep says store after
      → (NoneIsWorn state → LabelStep says store after) → Refines next tenant after → Reserved next tenant (start_of openings state tenant)
      → (NoneIsWorn state → given_out says store ≡ outgoing state tenant event) → SimulatesStep openings state next event tenant store
  goes_on simulated may_be goes does refines kept hands = record {
    says = says;
    lines = lines;
    closed = closed;
    may = may_be;
    after = after;
    goes = goes;
    does = does;
    hands = hands;
    simulated = record {
      refines = refines;
      history_match =
          subst (λ (start : AbstractState). HistoryMatch start (next.tenant_states tenant).lines after) (sym same_start)
          (subst (λ (now : List (Option Mark)). HistoryMatch (start_of openings state tenant) now after) (sym lines)
          (recalls (start_of openings state tenant) (state.tenant_states tenant).lines says store after simulated.refines.holds.numbered simulated.history_match may_be goes));
      kept = subst (λ (start : AbstractState). Reserved next tenant start) (sym same_start) kept;
    };
  }
