-- Reduces the simulation of an event that is no start to a list of facts about that event. Used by: mw_law_threads.
use Rattle.std.specs.Prelude.{ℕ, ◌≡◌, ◌≢◌, true, false, List, Option, Some}
use Rattle.std.proofs.Common.{sym, ap, subst, ◌∙◌, inl, inr}
use Rattle.std.proofs.lemmas.Bool.{cases_eq}
use Rattle.mw_words.specs.declared.replies.Reply.{Reply}
use Rattle.mw_words.specs.declared.replies.Reply.TheVariants.{Val, No as SaysNo}
use Rattle.mw_words.specs.declared.statuses.Status.{Status}
use Rattle.mw_lone.specs.declared.marks.Mark.{Mark}
use Rattle.mw_lone.specs.declared.marks.Mark.TheVariants.{Look, Miss}
use Rattle.mw_lone.specs.Store.{Store, run as run_of_store}
use Rattle.mw_law_store.specs.Late.LateMarks.{IsReservedFor}
use Rattle.mw_look.specs.declared.points.Point.{Point as ReadPoint}
use Rattle.mw_look.specs.declared.points.Point.TheVariants.{FindEntry, ReadExpected as ReadExpectedOfRead, ReadNew as ReadNewOfRead, RecheckWord}
use Rattle.mw_look.specs.declared.points.Trail.{Trail}
use Rattle.mw_look.specs.declared.points.Trail.TheVariants.{Held as ByHeld, Planted as ByPlanted}
use Rattle.mw_actor.specs.declared.points.Point.{Point}
use Rattle.mw_actor.specs.declared.points.Point.TheVariants.{Read, DecideNo}
use Rattle.mw_actor.specs.ActorState.{ActorState}
use Rattle.mw_world.specs.Definition.Events.{WorldEvent}
use Rattle.mw_world.specs.Definition.History.{History}
use Rattle.mw_world.specs.Definition.State.{State, WorkerState, TenantStart, store_at, marks_in}
use Rattle.mw_world.specs.Definition.World.{outgoing}
use Rattle.mw_law_store.specs.Simulation.{start_of, IsSimulatedBy, SimulatesStep, IsLegalTo}
use Rattle.mw_law_store.specs.RelaxedSteps.{StoreLabel, lines_after, RelaxedLabelStep, LabelStep, given_out}
use Rattle.mw_law_store.specs.ReservedPlaces.{keeps, keeps_by, PlacedBy, PlacedInRead, PlacedAt, Refusals, LegalAt, HasReserved}
use Rattle.mw_law_store.specs.AbstractStates.{AbstractState, CouldLook, CouldMiss}
use Rattle.mw_law_store.specs.HistoryMatches.{MayBeLabeled}
use Rattle.mw_law_store.specs.Refinement.{Refines}
use Rattle.mw_law_store.specs.Worn.{NoneIsWorn}
use Rattle.mw_law_store.proofs.StoreAfterSteps.{goes_on}
use Rattle.mw_law_store.proofs.ReservedPlaceLaws.{IsOwnPlace, PlaceGoesOn, placed_so, else_by, was_there, kept_goes_on}
use Rattle.mw_law_store.proofs.Legal.{LatePlace, IsElse, says_legal, legal_stays}
use Rattle.mw_law_store.proofs.HistoryMatchLaws.{labels_keep_history_match}

-- A request without a reserved place needs nothing at it.
placed_by_none : (past : History) (looks : ℕ → Type 0) (address : ℕ) (trail : Trail) (status : Status) → keeps_by trail ≡ false → PlacedBy past looks address trail status
placed_by_none past looks address (ByHeld slot seq) status none = cc
placed_by_none past looks address (ByPlanted worker number row) status none = tt

read_placed_none : (past : History) (looks : ℕ → Type 0) (misses : Refusals) (actor : ActorState) (address : ℕ) (point : ReadPoint) → keeps (Read (record { tenant = actor.tenant; address = address; point = point })) ≡ false
    → PlacedInRead past looks address point
read_placed_none past looks misses actor address (FindEntry trail status entry) none = placed_by_none past looks address trail status none
read_placed_none past looks misses actor address (ReadExpectedOfRead trail status entry) none = placed_by_none past looks address trail status none
read_placed_none past looks misses actor address (ReadNewOfRead trail status entry was) none = placed_by_none past looks address trail status none
read_placed_none past looks misses actor address (RecheckWord trail status was written) none = placed_by_none past looks address trail status none
read_placed_none past looks misses actor address point none = tt

pub placed_none : (past : History) (looks : ℕ → Type 0) (misses : Refusals) (actor : ActorState) (point : Point) → keeps point ≡ false → PlacedAt past looks misses actor point
placed_none past looks misses actor (Read look) none = read_placed_none past looks misses actor look.address look.point none
placed_none past looks misses actor (DecideNo task entry value) none = cc
placed_none past looks misses actor point none = tt

-- The store simulates the event; and if the tenant's marks are legal and no request is on the way to WORN, they are legal after
-- it.
pub record Met (openings : ℕ → TenantStart) (state next : State) (event : WorldEvent) (tenant : ℕ) (store : Store) : Type 0 where
  pub on : SimulatesStep openings state next event tenant store
  pub late : NoneIsWorn state → (legal : IsLegalTo openings state tenant store) → LatePlace legal.base (state.tenant_states tenant).lines on.says
  pub still : NoneIsWorn state → IsLegalTo openings state tenant store → IsLegalTo openings next tenant on.after

module _ (openings : ℕ → TenantStart) (state next : State) (event : WorldEvent) (worker tenant : ℕ) (store : Store) (simulated : IsSimulatedBy openings state tenant store) (says : StoreLabel) (after : Store)
    (closed : (next.tenant_states tenant).closed ≡ (state.tenant_states tenant).closed) (lines : (next.tenant_states tenant).lines ≡ lines_after says (state.tenant_states tenant).lines)
    (may : MayBeLabeled (start_of openings state tenant) (state.tenant_states tenant).lines says store) (goes : RelaxedLabelStep says store after) (does : NoneIsWorn state → LabelStep says store after)
    (others : (other : ℕ) → other ≢ worker → next.worker_states other ≡ state.worker_states other)
    (stays : (other : ℕ) (actor : ActorState) → other ≢ worker → (state.worker_states other).actor ≡ Some actor → (looks : ℕ → Type 0) (misses : Refusals) → PlacedAt state.history looks misses actor actor.point
    → PlacedAt next.history looks misses actor actor.point)
    (own : IsOwnPlace says tenant (state.worker_states worker)) where
  abbrev pub begun : AbstractState
  begun = start_of openings state tenant

  abbrev pub before : List (Option Mark)
  before = (state.tenant_states tenant).lines

  -- The worker has no reserved place; or it is where it was or at the end of the lines, and what must hold of it does.
  pub record IsMine (actor : ActorState) : Type 0 where
    pub acquired : HasReserved next.history begun (next.tenant_states tenant).lines (next.worker_states worker) actor
    pub place : keeps actor.point ≡ true → PlaceGoesOn worker tenant begun state next says store after may goes simulated.kept lines others stays own
    pub legal : NoneIsWorn state → (legal : IsLegalTo openings state tenant store) → LegalAt next.history legal.base (lines_after says before) (next.worker_states worker) actor actor.point

  pub mine_none : (actor : ActorState) → keeps actor.point ≡ false → IsMine actor
  mine_none actor none = record {
    acquired = record {
      is_empty = λ keeps. absurd (both keeps);
      kept_for =
          placed_none next.history (λ value. CouldLook begun (next.tenant_states tenant).lines (next.worker_states worker).kept (next.worker_states worker).request actor.job value)
          (λ n entries index address value. CouldMiss begun (next.tenant_states tenant).lines (next.worker_states worker).kept n entries index address value) actor actor.point none;
    };
    place = λ keeps. absurd (both keeps);
    legal = λ fresh legal.
        placed_none next.history (λ value. IsReservedFor legal.base (lines_after says before) (next.worker_states worker).kept (Look (next.worker_states worker).request) (next.worker_states worker).request (Val value))
        (λ n entries index address value. IsReservedFor legal.base (lines_after says before) (next.worker_states worker).kept (Miss n index) n (SaysNo address value)) actor actor.point none;
  }
    where
      both : keeps actor.point ≡ true → ⊥
      both is = cc

  -- another worker's place is still reserved for a legal mark
  other_legal : (late : (legal : IsLegalTo openings state tenant store) → LatePlace legal.base before says) → NoneIsWorn state → (legal : IsLegalTo openings state tenant store) → (other : ℕ) (actor : ActorState)
      → other ≢ worker → (next.worker_states other).actor ≡ Some actor → actor.tenant ≡ tenant → LegalAt next.history legal.base (lines_after says before) (next.worker_states other) actor actor.point
  other_legal late fresh legal other actor apart is same =
      let sat = was_there worker tenant begun state next says store after may goes simulated.kept lines others stays own other actor apart is in
      let worker_state = state.worker_states other in
      let away : keeps actor.point ≡ true → IsElse worker_state.kept says = λ keeps_it. else_by worker tenant begun state next says store after may goes simulated.kept lines others stays own says own other actor apart sat same keeps_it in
      let stands : keeps actor.point ≡ true → (mark : Mark) (n : ℕ) (reply : Reply) → IsReservedFor legal.base before worker_state.kept mark n reply → IsReservedFor legal.base (lines_after says before) worker_state.kept mark n reply =
      λ keeps_it mark n reply. legal_stays legal.base store after before says worker_state.kept mark n reply legal.numbered legal.lines (does fresh) (late legal) (away keeps_it) in
      subst (λ (now : WorkerState). LegalAt next.history legal.base (lines_after says before) now actor actor.point) (sym (others other apart))
      (stays other actor apart sat
      (λ value. IsReservedFor legal.base (lines_after says before) worker_state.kept (Look worker_state.request) worker_state.request (Val value))
      (λ n entries index address value. IsReservedFor legal.base (lines_after says before) worker_state.kept (Miss n index) n (SaysNo address value))
      (placed_so state.history (λ value. IsReservedFor legal.base before worker_state.kept (Look worker_state.request) worker_state.request (Val value))
      (λ value. IsReservedFor legal.base (lines_after says before) worker_state.kept (Look worker_state.request) worker_state.request (Val value))
      (λ n entries index address value. IsReservedFor legal.base before worker_state.kept (Miss n index) n (SaysNo address value))
      (λ n entries index address value. IsReservedFor legal.base (lines_after says before) worker_state.kept (Miss n index) n (SaysNo address value))
      actor actor.point (λ keeps_it value kept. stands keeps_it (Look worker_state.request) worker_state.request (Val value) kept)
      (λ keeps_it n entries index address value kept. stands keeps_it (Miss n index) n (SaysNo address value) kept) (legal.kept other actor sat same)))

  pub met : Refines next tenant after → (NoneIsWorn state → given_out says store ≡ outgoing state tenant event)
      → (NoneIsWorn state → (legal : IsLegalTo openings state tenant store) → LatePlace legal.base before says)
      → ((actor : ActorState) → (next.worker_states worker).actor ≡ Some actor → actor.tenant ≡ tenant → IsMine actor) → Met openings state next event tenant store
  met refines hands late mine = record {
    on = goes_on labels_keep_history_match openings state next event tenant store after says closed lines simulated may goes does refines
        (kept_goes_on worker tenant begun state next says store after may goes simulated.kept lines others stays own (λ actor is same. ((mine actor is same).acquired, (mine actor is same).place))) hands;
    late = late;
    still = λ fresh legal. record {
      base = legal.base;
      closed = ap (run_of_store (store_at (openings tenant))) closed ∙ legal.closed;
      numbered = legal.numbered;
      lines = ap (λ (now : List (Option Mark)). run_of_store legal.base (marks_in now)) lines ∙ says_legal legal.base store after before says legal.numbered legal.lines (does fresh) (late fresh legal);
      kept = λ other actor is same. subst (λ (now : List (Option Mark)). LegalAt next.history legal.base now (next.worker_states other) actor actor.point) (sym lines) (elim (cases_eq other worker) [
        | inl itself ↦ subst (λ (worker_state : WorkerState). LegalAt next.history legal.base (lines_after says before) worker_state actor actor.point) (ap next.worker_states (sym itself)) ((mine actor (ap (λ (n : ℕ). (next.worker_states n).actor) (sym itself) ∙ is) same).legal fresh legal)
        | inr apart ↦ other_legal (λ now. late fresh now) fresh legal other actor apart is same
      ]);
    };
  }
