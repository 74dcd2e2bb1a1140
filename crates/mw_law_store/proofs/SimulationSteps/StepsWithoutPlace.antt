-- A step after which its request has no reserved place: what it adds to one tenant's history, and how that tenant's store
-- alone steps. Used by: Called, EndsOfCalls.
use Rattle.std.specs.Prelude.{ℕ, ◌≡◌, ◌≢◌, true, false, Some, None}
use Rattle.std.proofs.Common.{refl, sym, ap, ◌∙◌}
use Rattle.mw_lone.specs.declared.marks.Mark.{Mark}
use Rattle.mw_lone.specs.Store.{Store, outgoing as outgoing_mark}
use Rattle.mw_law_store.specs.Late.MarkEffects.{Does}
use Rattle.mw_law_store.specs.Late.LateMarks.{more}
use Rattle.mw_actor.specs.ActorState.{ActorState}
use Rattle.mw_world.specs.declared.config.Config.{Config}
use Rattle.mw_world.specs.Definition.Events.{WorldEvent}
use Rattle.mw_world.specs.Definition.LabelEffects.{marked}
use Rattle.mw_world.specs.Definition.State.{State, TenantState, TenantStart}
use Rattle.mw_world.specs.Definition.Turns.{Made, moved}
use Rattle.mw_world.specs.Definition.World.{outgoing}
use Rattle.mw_law_runs.proofs.Knowledge.Updates.Preservation.{upd_here, upd_else}
use Rattle.mw_law_runs.specs.Moves.Rely.{Rely}
use Rattle.mw_law_runs.specs.RunInvariant.{IsSound}
use Rattle.mw_law_runs.proofs.Obligations.Pins.{some_same}
use Rattle.mw_law_store.proofs.Aside.{IsAside, moved_aside, owns_are_claimed}
use Rattle.mw_law_store.proofs.ReservedPlaceLaws.{IsOwnPlace, placed_stays}
use Rattle.mw_law_store.proofs.Legal.{LatePlace}
use Rattle.mw_law_store.proofs.SimulationSteps.Met.{Met, met, mine_none}
use Rattle.mw_law_store.specs.Simulation.{start_of, IsSimulatedBy}
use Rattle.mw_law_store.specs.RelaxedSteps.{StoreLabel, NoLabel, Says, lines_after, RelaxedStep, RelaxedLabelStep, LabelStep, given_out}
use Rattle.mw_law_store.specs.ReservedPlaces.{keeps, PlacedAt, Refusals}
use Rattle.mw_law_store.specs.AbstractStates.{AbstractState}
use Rattle.mw_law_store.specs.HistoryMatches.{MayBeLabeled}
use Rattle.mw_law_store.specs.Refinement.{is_live, Refines}

-- The label of a worker's step for a tenant, and the tenant's store after it, if nothing is handed out.
pub record LeadsOn (state next : State) (worker tenant : ℕ) (store : Store) : Type 0 where
  pub says : StoreLabel
  pub after : Store
  pub others : (other : ℕ) → other ≢ worker → next.worker_states other ≡ state.worker_states other
  pub closed : (next.tenant_states tenant).closed ≡ (state.tenant_states tenant).closed
  pub lines : (next.tenant_states tenant).lines ≡ lines_after says (state.tenant_states tenant).lines
  pub may : (start : AbstractState) → MayBeLabeled start (state.tenant_states tenant).lines says store
  pub goes : RelaxedLabelStep says store after
  pub does : LabelStep says store after
  pub hands : given_out says store ≡ None
  pub late : (base : Store) → LatePlace base (state.tenant_states tenant).lines says
  pub own : IsOwnPlace says tenant (state.worker_states worker)
  pub refines : Refines next tenant after

module _ (state : State) (actor : ActorState) (made : Made) (tenant : ℕ) (store : Store) where
  abbrev there : State
  there = moved state actor.worker actor made

  others_stay : (other : ℕ) → other ≢ actor.worker → there.worker_states other ≡ state.worker_states other
  others_stay other apart = upd_else state.worker_states actor.worker other _ apart

  -- A step of another tenant's request has no label.
  pub leads_aside : (config : Config) → IsSound config state → Refines state tenant store → actor.tenant ≢ tenant
      → ((slot seq : ℕ) → is_live made.cells slot seq → state.history.is_claimed slot seq ≡ true → is_live state.cells slot seq)
      → (made.cells.doors tenant).used ≡ (state.cells.doors tenant).used → IsAside state.history actor.tenant made.label → LeadsOn state there actor.worker tenant store
  leads_aside config sound refines differ fewer used aside =
      let tenant_state : there.tenant_states tenant ≡ state.tenant_states tenant = upd_else state.tenant_states actor.tenant tenant _ (λ same. differ (sym same)) in
      record {
        says = NoLabel;
        after = store;
        others = others_stay;
        closed = ap (λ (one : TenantState). one.closed) tenant_state;
        lines = ap (λ (one : TenantState). one.lines) tenant_state;
        may = λ start. tt;
        goes = refl;
        does = refl;
        hands = refl;
        late = λ base. tt;
        own = tt;
        refines = moved_aside state actor.worker actor _ made tenant store differ refl fewer used aside (owns_are_claimed config state tenant sound) refines;
      }

module _ (state : State) (actor : ActorState) (made : Made) (store : Store) where
  abbrev after_it : State
  after_it = moved state actor.worker actor made

  abbrev tenant_state : TenantState
  tenant_state = state.tenant_states actor.tenant

  same_closed : (after_it.tenant_states actor.tenant).closed ≡ tenant_state.closed
  same_closed = ap (λ (one : TenantState). one.closed) (upd_here state.tenant_states actor.tenant _)

  marked_lines : (after_it.tenant_states actor.tenant).lines ≡ marked made.label (state.worker_states actor.worker) state.history tenant_state.lines
  marked_lines = ap (λ (one : TenantState). one.lines) (upd_here state.tenant_states actor.tenant _)

  -- A step of the tenant's own request that has no label.
  pub leads_no_label : marked made.label (state.worker_states actor.worker) state.history tenant_state.lines ≡ tenant_state.lines → Refines after_it actor.tenant store → LeadsOn state after_it actor.worker actor.tenant store
  leads_no_label same refines = record {
    says = NoLabel;
    after = store;
    others = others_stay state actor made actor.tenant store;
    closed = same_closed;
    lines = marked_lines ∙ same;
    may = λ start. tt;
    goes = refl;
    does = refl;
    hands = refl;
    late = λ base. tt;
    own = tt;
    refines = refines;
  }

  -- A step whose label is a mark that hands out nothing.
  pub leads_store_label : (mark : Mark) (t : Store) → marked made.label (state.worker_states actor.worker) state.history tenant_state.lines ≡ more tenant_state.lines (Some mark)
      → ((start : AbstractState) → MayBeLabeled start tenant_state.lines (Says mark) store) → RelaxedStep store mark t → Does store mark t → outgoing_mark store mark ≡ None → Refines after_it actor.tenant t
      → LeadsOn state after_it actor.worker actor.tenant store
  leads_store_label mark t is may goes does hands refines = record {
    says = Says mark;
    after = t;
    others = others_stay state actor made actor.tenant store;
    closed = same_closed;
    lines = marked_lines ∙ is;
    may = may;
    goes = goes;
    does = does;
    hands = hands;
    late = λ base. tt;
    own = tt;
    refines = refines;
  }

-- What could take place at others' reserved places still could.
others_placed : (config : Config) (state next : State) (worker : ℕ) → IsSound config state → Rely worker state next → (other : ℕ) (actor : ActorState) → other ≢ worker → (state.worker_states other).actor ≡ Some actor
    → (looks : ℕ → Type 0) (misses : Refusals) → PlacedAt state.history looks misses actor actor.point → PlacedAt next.history looks misses actor actor.point
others_placed config state next worker sound later other actor apart is looks misses placed =
    placed_stays worker state next later looks misses actor actor.point (sound.requests other actor is).stands.knows placed

-- So the tenant's store simulates the step, if the request has no reserved place after it.
pub leads_met : (config : Config) (openings : ℕ → TenantStart) (state next : State) (event : WorldEvent) (worker : ℕ) (later_actor : ActorState) (tenant : ℕ) (store : Store) → IsSound config state
    → IsSimulatedBy openings state tenant store → Rely worker state next → (next.worker_states worker).actor ≡ Some later_actor → keeps later_actor.point ≡ false → outgoing state tenant event ≡ None
    → LeadsOn state next worker tenant store → Met openings state next event tenant store
leads_met config openings state next event worker later_actor tenant store sound simulated later sits none hands leads =
    let stays = others_placed config state next worker sound later in
    let may = leads.may (start_of openings state tenant) in
    met openings state next event worker tenant store simulated leads.says leads.after leads.closed leads.lines may leads.goes (λ fresh. leads.does) leads.others stays leads.own leads.refines
    (λ fresh. leads.hands ∙ sym hands) (λ fresh legal. leads.late legal.base)
    (λ actor is same. mine_none openings state next event worker tenant store simulated leads.says leads.after leads.closed leads.lines may leads.goes (λ fresh. leads.does) leads.others stays leads.own actor
    (ap (λ (one : ActorState). keeps one.point) (sym (some_same later_actor actor (sym sits ∙ is))) ∙ none))
