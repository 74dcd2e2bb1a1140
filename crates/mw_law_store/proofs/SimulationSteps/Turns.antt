-- The store alone of a request's tenant simulates a step that is no call on a file: one case for each label (what the step
-- adds to the history). Used by: ReservedPlaces, Turned.
use Rattle.std.specs.Prelude.{ℕ, ◌≡◌, ◌≢◌, ◌⊎◌, ◌+◌, ◌-◌, Bool, true, false, List, length, slice_get, slice_set, Option, Some, None}
use Rattle.std.proofs.Common.{refl, sym, ap, subst, ◌∙◌, inl, inr, arith}
use Rattle.mw_words.specs.declared.doors.Door.{Door}
use Rattle.mw_words.specs.declared.jobs.Entry.{Entry}
use Rattle.mw_words.specs.declared.jobs.Job.{Job}
use Rattle.mw_words.specs.declared.replies.Reply.{Reply}
use Rattle.mw_words.specs.declared.replies.Reply.TheVariants.{Val, No as SaysNo, Yes as SaysYes, Busy as SaysBusy, Fault as SaysFault, Worn as SaysWorn}
use Rattle.mw_words.specs.declared.statuses.Status.{Status}
use Rattle.mw_words.specs.Change.{word_at}
use Rattle.mw_lone.specs.declared.marks.Mark.{Mark}
use Rattle.mw_lone.specs.declared.marks.Mark.TheVariants.{Admit as IsAdmitted, Busy as IsBusy, GiveUp as GivesUpMark, Look, Miss, Retire}
use Rattle.mw_lone.specs.Store.{Store, RequestState, request, entries_of, is_cas, outgoing as outgoing_mark}
use Rattle.mw_law_store.specs.Late.MarkEffects.{Retires}
use Rattle.mw_law_store.specs.Late.LateMarks.{more, IsReservedFor}
use Rattle.mw_look.specs.declared.observations.Observation.{Observation}
use Rattle.mw_look.specs.declared.points.Point.{Point as ReadPoint}
use Rattle.mw_look.specs.declared.points.Point.TheVariants.{FindEntry, ReadExpected as ReadExpectedOfRead, ReadNew as ReadNewOfRead, RecheckWord, LowerDoor as LowerOfRead}
use Rattle.mw_look.specs.declared.points.Trail.{Trail}
use Rattle.mw_look.specs.declared.points.Trail.TheVariants.{Held as ByHeld, Planted as ByPlanted}
use Rattle.mw_actor.specs.declared.points.After.{After}
use Rattle.mw_actor.specs.declared.points.After.TheVariants.{Work, GiveUp as ThenGiveUp, Reply as ThenReply}
use Rattle.mw_actor.specs.declared.points.Point.{Point}
use Rattle.mw_actor.specs.declared.points.Point.TheVariants.{Read, DecideNo, LowerDoor}
use Rattle.mw_actor.specs.declared.points.Slot.{Slot}
use Rattle.mw_actor.specs.ActorState.{ActorState, entry_at, entry_of}
use Rattle.mw_world.specs.declared.step_labels.StepLabel.{StepLabel}
use Rattle.mw_world.specs.declared.step_labels.StepLabel.TheVariants.{Nothing, Admitted, FoundBusy, FoundFault, Looked, Reserved, LookedBefore, Claimed, Decided, Refused, Moved, Freed, Lowered as IsLowered, GaveUp, SealedIt, FailedToSeal, FailedFile}
use Rattle.mw_world.specs.declared.step_labels.Phase.{Phase}
use Rattle.mw_world.specs.Definition.Cells.{Cells}
use Rattle.mw_world.specs.Definition.Events.{WorldEvent, Step as StepEvent}
use Rattle.mw_world.specs.Definition.History.{History, expected, new}
use Rattle.mw_world.specs.Definition.Logical.{held_value}
use Rattle.mw_world.specs.Definition.LabelEffects.{marked, with_labels, with_intent, more_unless, late_unless}
use Rattle.mw_world.specs.Definition.State.{State, WorkerState, TenantState, TenantStart}
use Rattle.mw_world.specs.Definition.Turns.{goes_on, moved_to, next_attempt}
use Rattle.mw_law_runs.specs.Moves.Rely.{Rely}
use Rattle.mw_law_runs.specs.Knowledge.Points.{Knows}
use Rattle.mw_law_runs.proofs.Knowledge.Updates.Preservation.{upd_here, upd_else}
use Rattle.mw_law_store.specs.Due.{Dropping, due, lowers, lowers_then, lowers_in_read, waits}
use Rattle.mw_law_store.specs.Simulation.{start_of, IsSimulatedBy, IsLegalTo}
use Rattle.mw_law_store.specs.RelaxedSteps.{StoreLabel, NoLabel, Says, ReservesPlace, MarksLate, lines_after, RelaxedLabelStep, LabelStep, GivesBack, Decides, given_out}
use Rattle.mw_law_store.specs.ReservedPlaces.{keeps, PlacedBy, PlacedInRead, PlacedAt, Refusals, HasReserved, ReservedAt, LegalAt}
use Rattle.mw_law_store.specs.AbstractStates.{AbstractState, IsAskedBefore, CouldLook, CouldMiss, CouldCome}
use Rattle.mw_law_store.specs.HistoryMatches.{MayBeLabeled}
use Rattle.mw_law_store.specs.Refinement.{is_live, changes_of_tenant, IsHis, WorkerRefines, Refines}
use Rattle.mw_law_store.specs.Worn.{NoneIsWorn, is_worn_after, is_worn_at}
use Rattle.mw_law_store.proofs.Claims.{OwnsAreClaimed}
use Rattle.mw_law_store.proofs.Dues.StepEnds.{KeepsOn, Stays, Settled, EndOf}
use Rattle.mw_law_store.proofs.RefinementAfterStep.{NoMoreTaken, CountsAsMany}
use Rattle.mw_law_runs.specs.Obligations.{own_of}
use Rattle.mw_law_store.proofs.RequestFrames.{refines_actor}
use Rattle.mw_law_store.proofs.Marks.{is_his, one_found}
use Rattle.mw_law_store.proofs.ReservedPlaceLaws.{IsOwnPlace, placed_so, placed_stays}
use Rattle.mw_law_store.proofs.Legal.{LatePlace, look_is_kept, miss_is_kept}
use Rattle.mw_law_store.proofs.MarkedSteps as marking
use Rattle.mw_law_store.proofs.SimulationSteps.Given as given
use Rattle.mw_law_store.proofs.SimulationSteps.Given.{Given}
use Rattle.mw_law_store.proofs.SimulationSteps.Met.{Met, IsMine, mine_none, met}
use Rattle.mw_law_store.proofs.AbstractStateLaws.{got_last}
use Rattle.mw_law_store.proofs.PlacesAfterLine.{asked_before}
use Rattle.mw_law_store.proofs.UnmarkedSteps as turning
use Rattle.mw_law_store.proofs.LastLines.{word_at_end}

-- How the number of slots that a door counts goes on, by the step's label.
abbrev pub DoorsSo : StepLabel → Door → Door → Type 0
DoorsSo Admitted old new = new.used ≡ old.used + 1
DoorsSo IsLowered old new = new.used ≡ old.used - 1
DoorsSo label old new = new.used ≡ old.used

-- How the slots that are taken go on.
abbrev pub TakenSo : StepLabel → State → Cells → Type 0
TakenSo (Claimed own) state cells = (slot seq : ℕ) → is_live cells slot seq → (is_live state.cells slot seq) ⊎ ((slot ≡ own.slot) × (seq ≡ own.seq))
TakenSo (Freed slot) state cells = NoMoreTaken state cells × (is_live cells slot.slot slot.seq → ⊥)
TakenSo label state cells = NoMoreTaken state cells

-- What happens to the request's reserved place: after the step it has none, the same one for the same use, or a new one.
pub data PlaceSo (state : State) (actor next : ActorState) (label : StepLabel) : Type 1 where
  ReservesNone : keeps next.point ≡ false → PlaceSo state actor next label
  ReservesSame : label ≡ Nothing → keeps actor.point ≡ true
      → ((looks : ℕ → Type 0) (misses : Refusals) → PlacedAt state.history looks misses actor actor.point → PlacedAt state.history looks misses next next.point) → PlaceSo state actor next label
  ReservesNew : label ≡ Reserved → PlaceSo state actor next label

-- A request that frees a slot does not wait for one, if it is a change.
abbrev pub FreesSo : StepLabel → ActorState → Type 0
FreesSo (Freed slot) actor = waits (due actor.point) ≡ true → is_cas actor.job ≡ true → ⊥
FreesSo label actor = Unit {0}

same_some : (one other : ActorState) → Some one ≡ Some other → one ≡ other
same_some one other e = cc

-- A worker's standing attempt and permission do not change what could take place at a reserved place.
with_intent_by : (past : History) (worker : ℕ) (one : ActorState) (looks : ℕ → Type 0) (address : ℕ) (trail : Trail) (status : Status) → PlacedBy past looks address trail status → PlacedBy (with_intent past worker one) looks address trail status
with_intent_by past worker one looks address (ByHeld slot seq) status placed = placed
with_intent_by past worker one looks address (ByPlanted other number row) status placed = tt

with_intent_in_read : (past : History) (worker : ℕ) (one : ActorState) (looks : ℕ → Type 0) (address : ℕ) (point : ReadPoint) → PlacedInRead past looks address point → PlacedInRead (with_intent past worker one) looks address point
with_intent_in_read past worker one looks address (FindEntry trail status entry) placed = with_intent_by past worker one looks address trail status placed
with_intent_in_read past worker one looks address (ReadExpectedOfRead trail status entry) placed = with_intent_by past worker one looks address trail status placed
with_intent_in_read past worker one looks address (ReadNewOfRead trail status entry was) placed = with_intent_by past worker one looks address trail status placed
with_intent_in_read past worker one looks address (RecheckWord trail status was written) placed = with_intent_by past worker one looks address trail status placed
with_intent_in_read past worker one looks address point placed = tt

placed_with_intent : (past : History) (worker : ℕ) (one : ActorState) (looks : ℕ → Type 0) (misses : Refusals) (actor : ActorState) (point : Point) → PlacedAt past looks misses actor point
    → PlacedAt (with_intent past worker one) looks misses actor point
placed_with_intent past worker one looks misses actor (Read look) placed = with_intent_in_read past worker one looks look.address look.point placed
placed_with_intent past worker one looks misses actor (DecideNo task entry value) placed = placed
placed_with_intent past worker one looks misses actor point placed = tt

-- the door is lowered for the own request only on the way to WORN
dropping_then : (onward : After) → lowers_then onward ≡ Dropping → is_worn_after onward ≡ true
dropping_then (ThenReply SaysWorn) is = refl
dropping_then (ThenReply (Val value)) is = cc
dropping_then (ThenReply SaysYes) is = cc
dropping_then (ThenReply (SaysNo address value)) is = cc
dropping_then (ThenReply SaysBusy) is = cc
dropping_then (ThenReply SaysFault) is = cc
dropping_then (Work task) is = cc
dropping_then (ThenGiveUp own undecided) is = cc

dropping_read : (point : ReadPoint) → lowers_in_read point ≡ Dropping → ⊥
dropping_read (LowerOfRead onward) is = cc
dropping_read point is = cc

dropping_worn : (point : Point) → lowers point ≡ Dropping → is_worn_at point ≡ true
dropping_worn (Read look) is = absurd (dropping_read look.point is)
dropping_worn (LowerDoor onward) is = dropping_then onward is
dropping_worn point is = cc

module _ (openings : ℕ → TenantStart) (state : State) (actor next : ActorState) (cells : Cells) (observation : Observation) (store : Store) (simulated : IsSimulatedBy openings state actor.tenant store)
    (sits : (state.worker_states actor.worker).actor ≡ Some actor) (same_tenant : next.tenant ≡ actor.tenant) (same_job : next.job ≡ actor.job) where
  abbrev tenant : ℕ
  tenant = actor.tenant

  abbrev tenant_state : TenantState
  tenant_state = state.tenant_states actor.tenant

  abbrev worker_state : WorkerState
  worker_state = state.worker_states actor.worker

  abbrev start : AbstractState
  start = start_of openings state actor.tenant

  abbrev before : List (Option Mark)
  before = tenant_state.lines

  -- the world after a step with this label
  abbrev pub after : StepLabel → State
  after label = moved_to state actor.worker actor next (record { cells = cells; file = tenant_state.file; observation = observation; label = label })

  abbrev event : WorldEvent
  event = StepEvent actor.worker

  worker_state_then : (label : StepLabel) → (after label).worker_states actor.worker ≡ goes_on (with_labels label state.history before worker_state) next (next_attempt actor.point worker_state.attempt)
  worker_state_then label = upd_here state.worker_states actor.worker _

  closed_then : (label : StepLabel) → ((after label).tenant_states actor.tenant).closed ≡ tenant_state.closed
  closed_then label = ap (λ (one : TenantState). one.closed) (upd_here state.tenant_states actor.tenant _)

  lines_then : (label : StepLabel) → ((after label).tenant_states actor.tenant).lines ≡ marked label worker_state state.history before
  lines_then label = ap (λ (one : TenantState). one.lines) (upd_here state.tenant_states actor.tenant _)

  others_then : (label : StepLabel) (other : ℕ) → other ≢ actor.worker → (after label).worker_states other ≡ state.worker_states other
  others_then label other apart = upd_else state.worker_states actor.worker other _ apart

  -- What is known of the step besides its end and what it gives.
  pub record Known (label : StepLabel) : Type 1 where
    pub later : Rely actor.worker state (after label)
    pub knows : (other : ℕ) (one : ActorState) → (state.worker_states other).actor ≡ Some one → Knows state one one.point
    pub taken : TakenSo label state cells
    pub doors : DoorsSo label (state.cells.doors actor.tenant) (cells.doors actor.tenant)
    pub frees : FreesSo label actor
    pub place : PlaceSo state actor next label
    pub settles : given.Settles state actor next
    pub owns : OwnsAreClaimed (changes_of_tenant state.history actor.tenant) state.worker_states actor.tenant

  module _ (label : StepLabel) (known : Known label) where
    stays_then : (other : ℕ) (one : ActorState) → other ≢ actor.worker → (state.worker_states other).actor ≡ Some one → (looks : ℕ → Type 0) (misses : Refusals) → PlacedAt state.history looks misses one one.point
        → PlacedAt (after label).history looks misses one one.point
    stays_then other one apart is looks misses placed = placed_stays actor.worker state (after label) known.later looks misses one one.point (known.knows other one is) placed

    -- the label hands out nothing
    meets_by : (says : StoreLabel) (t : Store) → (lines : marked label worker_state state.history before ≡ lines_after says before) → (may : MayBeLabeled start before says store) → (goes : RelaxedLabelStep says store t)
        → (does : NoneIsWorn state → LabelStep says store t) → (own : IsOwnPlace says actor.tenant worker_state) → given_out says store ≡ None
        → (NoneIsWorn state → (legal : IsLegalTo openings state actor.tenant store) → LatePlace legal.base before says) → Refines (after label) actor.tenant t
        → IsMine openings state (after label) event actor.worker actor.tenant store simulated says t (closed_then label) (lines_then label ∙ lines) may goes does (others_then label) stays_then own next
        → Met openings state (after label) event actor.tenant store
    meets_by says t lines may goes does own hands late refines mine =
        met openings state (after label) event actor.worker actor.tenant store simulated says t (closed_then label) (lines_then label ∙ lines) may goes does (others_then label) stays_then own
        refines (λ fresh. hands) late
        (λ one is same. subst (λ (that : ActorState). IsMine openings state (after label) event actor.worker actor.tenant store simulated says t (closed_then label) (lines_then label ∙ lines) may goes does (others_then label)
        stays_then own that) (same_some next one (sym (ap (λ (s : WorkerState). s.actor) (worker_state_then label)) ∙ is)) mine)

    -- the request has no reserved place after its step
    meets_none : (says : StoreLabel) (t : Store) → (lines : marked label worker_state state.history before ≡ lines_after says before) → (may : MayBeLabeled start before says store) → (goes : RelaxedLabelStep says store t)
        → (does : NoneIsWorn state → LabelStep says store t) → (own : IsOwnPlace says actor.tenant worker_state) → given_out says store ≡ None
        → (NoneIsWorn state → (legal : IsLegalTo openings state actor.tenant store) → LatePlace legal.base before says) → Refines (after label) actor.tenant t → keeps next.point ≡ false
        → Met openings state (after label) event actor.tenant store
    meets_none says t lines may goes does own hands late refines none =
        meets_by says t lines may goes does own hands late refines
        (mine_none openings state (after label) event actor.worker actor.tenant store simulated says t (closed_then label) (lines_then label ∙ lines) may goes does (others_then label) stays_then own next none)

  -- The worker's request in the store, and that of a change of its tenant.
  its_row : WorkerRefines (is_live state.cells) (changes_of_tenant state.history actor.tenant) (request store) worker_state.request worker_state.retiring actor.job (due actor.point) (lowers actor.point) (own_of actor.point)
  its_row = refines_actor (is_live state.cells) (changes_of_tenant state.history actor.tenant) actor.tenant (request store) worker_state.request worker_state.retiring worker_state.actor actor sits refl (simulated.refines.asks.each actor.worker)

  his : IsHis (request store) worker_state.request actor.job
  his = is_his (request store) worker_state.request actor.job (due actor.point) its_row.is_due

  its_place : HasReserved state.history start before worker_state actor
  its_place = simulated.kept.each actor.worker actor sits refl

  -- the words that the store has
  value_in : (address value : ℕ) → word_at tenant_state.file.contents address ≡ value → word_at store.words address ≡ value
  value_in address value says = ap (λ (words : List ℕ). word_at words address) (sym simulated.refines.holds.words) ∙ says

  -- At the end of the lines a read could take place that finds this value now, and a change could be refused that finds it.
  could_look : (value : ℕ) → given.LooksHere state actor next value → CouldLook start (more before None) (length before) worker_state.request next.job value
  could_look value here = record {
    asked = asked_before before None (length before) worker_state.request (simulated.history_match.asked worker_state.request his.found his.is_asked);
    address = here.address;
    reads = same_job ∙ here.reads;
    says = word_at_end start before None store here.address simulated.history_match ∙ value_in here.address value here.says;
  }

  could_miss : (n : ℕ) (entries : List Entry) (index address value : ℕ) → given.RefusesHere state actor next n entries index address value → CouldMiss start (more before None) (length before) n entries index address value
  could_miss n entries index address value here =
      let row = simulated.refines.asks.changes.asked here.target.slot here.target.seq here.its in
      record {
        asked = asked_before before None (length before) n
            (subst (λ (k : ℕ). IsAskedBefore before (length before) k) here.request (simulated.history_match.asked (state.history.request here.target.slot here.target.seq) row.found row.is_asked));
        entry = here.entry;
        is_entry = here.is_entry;
        same_address = here.same_address;
        says = word_at_end start before None store address simulated.history_match ∙ value_in address value here.says;
        differs = here.differs;
      }

  look_legal : (legal : IsLegalTo openings state actor.tenant store) (value : ℕ) → given.LooksHere state actor next value → IsReservedFor legal.base (more before None) (length before) (Look worker_state.request) worker_state.request (Val value)
  look_legal legal value here =
      look_is_kept legal.base store before worker_state.request his.found here.address value legal.lines his.is_asked (his.its_job ∙ here.reads) (value_in here.address value here.says)

  miss_legal : (legal : IsLegalTo openings state actor.tenant store) (n : ℕ) (entries : List Entry) (index address value : ℕ) → given.RefusesHere state actor next n entries index address value
      → IsReservedFor legal.base (more before None) (length before) (Miss n index) n (SaysNo address value)
  miss_legal legal n entries index address value here =
      let row = simulated.refines.asks.changes.asked here.target.slot here.target.seq here.its in
      miss_is_kept legal.base store before n index row.found here.entry address value legal.lines (ap (request store) (sym here.request) ∙ row.is_asked) row.has_slot
      (ap (λ (those : List Entry). slice_get those index) (row.its_entries ∙ here.change) ∙ here.is_entry) here.same_address (value_in address value here.says) here.differs

  -- A place that was just reserved.
  module _ (known : Known Reserved) (placed : PlacedAt state.history (given.LooksHere state actor next) (given.RefusesHere state actor next) next next.point) where
    abbrev new_lines : ((after Reserved).tenant_states actor.tenant).lines ≡ lines_after ReservesPlace before
    new_lines = lines_then Reserved ∙ refl

    kept_then : ((after Reserved).worker_states actor.worker).kept ≡ length before
    kept_then = ap (λ (s : WorkerState). s.kept) (worker_state_then Reserved)

    mine_anew : (refines : Refines (after Reserved) actor.tenant store) → IsMine openings state (after Reserved) event actor.worker actor.tenant store simulated ReservesPlace store (closed_then Reserved) (lines_then Reserved ∙ refl) tt refl (λ fresh. refl)
        (others_then Reserved) (stays_then Reserved known) tt next
    mine_anew refines = record {
      acquired =
          subst (λ (now : List (Option Mark)). HasReserved (after Reserved).history start now ((after Reserved).worker_states actor.worker) next) (sym (lines_then Reserved))
          (subst (λ (s : WorkerState). HasReserved (after Reserved).history start (more before None) s next) (sym (worker_state_then Reserved))
          (record {
            is_empty = λ keeps_it. got_last before None;
            kept_for = placed_with_intent state.history actor.worker next
                (λ value. CouldLook start (more before None) (length before) worker_state.request next.job value) (λ n entries index address value. CouldMiss start (more before None) (length before) n entries index address value) next next.point
                (placed_so state.history (given.LooksHere state actor next) (λ value. CouldLook start (more before None) (length before) worker_state.request next.job value)
                (given.RefusesHere state actor next) (λ n entries index address value. CouldMiss start (more before None) (length before) n entries index address value) next next.point
                (λ keeps_it value here. could_look value here) (λ keeps_it n entries index address value here. could_miss n entries index address value here) placed);
          }));
      place = λ keeps_it. inr kept_then;
      legal = λ fresh legal.
          subst (λ (s : WorkerState). LegalAt (after Reserved).history legal.base (more before None) s next next.point) (sym (worker_state_then Reserved))
          (placed_with_intent state.history actor.worker next
          (λ value. IsReservedFor legal.base (more before None) (length before) (Look worker_state.request) worker_state.request (Val value))
          (λ n entries index address value. IsReservedFor legal.base (more before None) (length before) (Miss n index) n (SaysNo address value)) next next.point
          (placed_so state.history (given.LooksHere state actor next) (λ value. IsReservedFor legal.base (more before None) (length before) (Look worker_state.request) worker_state.request (Val value))
          (given.RefusesHere state actor next) (λ n entries index address value. IsReservedFor legal.base (more before None) (length before) (Miss n index) n (SaysNo address value)) next next.point
          (λ keeps_it value here. look_legal legal value here) (λ keeps_it n entries index address value here. miss_legal legal n entries index address value here) placed));
    }

    meets_anew : Refines (after Reserved) actor.tenant store → Met openings state (after Reserved) event actor.tenant store
    meets_anew refines = meets_by Reserved known ReservesPlace store refl tt refl (λ fresh. refl) tt refl (λ fresh legal. tt) refines (mine_anew refines)

  -- A place that was reserved, and still is for the same use.
  module _ (known : Known Nothing) (keeps_it : keeps actor.point ≡ true)
      (carries : (looks : ℕ → Type 0) (misses : Refusals) → PlacedAt state.history looks misses actor actor.point → PlacedAt state.history looks misses next next.point) where
    mine_still : IsMine openings state (after Nothing) event actor.worker actor.tenant store simulated NoLabel store (closed_then Nothing) (lines_then Nothing ∙ refl) tt refl (λ fresh. refl)
        (others_then Nothing) (stays_then Nothing known) tt next
    mine_still = record {
      acquired =
          subst (λ (now : List (Option Mark)). HasReserved (after Nothing).history start now ((after Nothing).worker_states actor.worker) next) (sym (lines_then Nothing))
          (subst (λ (s : WorkerState). HasReserved (after Nothing).history start before s next) (sym (worker_state_then Nothing))
          (record {
            is_empty = λ still. its_place.is_empty keeps_it;
            kept_for = placed_with_intent state.history actor.worker next
                (λ value. CouldLook start before worker_state.kept worker_state.request next.job value) (λ n entries index address value. CouldMiss start before worker_state.kept n entries index address value) next next.point
                (carries (λ value. CouldLook start before worker_state.kept worker_state.request next.job value) (λ n entries index address value. CouldMiss start before worker_state.kept n entries index address value)
                (subst (λ (job : Job). PlacedAt state.history (λ value. CouldLook start before worker_state.kept worker_state.request job value)
                (λ n entries index address value. CouldMiss start before worker_state.kept n entries index address value) actor actor.point) (sym same_job) its_place.kept_for));
          }));
      place = λ still. inl (record { actor = actor; is = sits; same_tenant = refl; keeps_one = keeps_it; place_is = ap (λ (s : WorkerState). s.kept) (worker_state_then Nothing) });
      legal = λ fresh legal.
          subst (λ (s : WorkerState). LegalAt (after Nothing).history legal.base before s next next.point) (sym (worker_state_then Nothing))
          (placed_with_intent state.history actor.worker next
          (λ value. IsReservedFor legal.base before worker_state.kept (Look worker_state.request) worker_state.request (Val value))
          (λ n entries index address value. IsReservedFor legal.base before worker_state.kept (Miss n index) n (SaysNo address value)) next next.point
          (carries (λ value. IsReservedFor legal.base before worker_state.kept (Look worker_state.request) worker_state.request (Val value))
          (λ n entries index address value. IsReservedFor legal.base before worker_state.kept (Miss n index) n (SaysNo address value)) (legal.kept actor.worker actor sits refl)));
    }

    meets_still : Refines (after Nothing) actor.tenant store → Met openings state (after Nothing) event actor.tenant store
    meets_still refines = meets_by Nothing known NoLabel store refl tt refl (λ fresh. refl) tt refl (λ fresh legal. tt) refines mine_still

  -- the doors and the gates in terms of the store
  used_by : (label : StepLabel) → (cells.doors actor.tenant).used ≡ (state.cells.doors actor.tenant).used → CountsAsMany state actor.tenant cells
  used_by label is = is

  -- The label is empty, so the store stays.
  module _ (label : StepLabel) (known : Known label) (quiet : marked label worker_state state.history before ≡ before) where
    meets_no_label : Refines (after label) actor.tenant store → keeps next.point ≡ false → Met openings state (after label) event actor.tenant store
    meets_no_label refines none = meets_none label known NoLabel store quiet tt refl (λ fresh. refl) tt refl (λ fresh legal. tt) refines none

  -- The label is a mark.
  module _ (label : StepLabel) (known : Known label) (mark : Mark) (t : Store) (marks_it : marked label worker_state state.history before ≡ more before (Some mark)) where
    meets_said : (may : MayBeLabeled start before (Says mark) store) → RelaxedLabelStep (Says mark) store t → (NoneIsWorn state → LabelStep (Says mark) store t) → outgoing_mark store mark ≡ None
        → Refines (after label) actor.tenant t → keeps next.point ≡ false → Met openings state (after label) event actor.tenant store
    meets_said may goes does none_out refines none = meets_none label known (Says mark) t marks_it may goes does tt none_out (λ fresh legal. tt) refines none

  -- The mark is put in at the request's reserved place, which may be for the request or for the change that it works on.
  module _ (label : StepLabel) (known : Known label) (mark : Mark) (n : ℕ) (reply : Reply) (t : Store) (marks_it : marked label worker_state state.history before ≡ slice_set before worker_state.kept (Some mark)) (keeps_it : keeps actor.point ≡ true) where
    meets_late : ((r : RequestState) → request store n ≡ Some r → CouldCome start before worker_state.kept mark n r.job reply) → Decides store n reply t
        → ((legal : IsLegalTo openings state actor.tenant store) → IsReservedFor legal.base before worker_state.kept mark n reply) → Refines (after label) actor.tenant t → keeps next.point ≡ false
        → Met openings state (after label) event actor.tenant store
    meets_late could decides legal refines none =
        meets_none label known (MarksLate worker_state.kept mark n reply) t marks_it (its_place.is_empty keeps_it, could) decides (λ fresh. decides)
        (record { actor = actor; is = sits; same_tenant = refl; keeps_one = keeps_it; place_is = refl }) refl (λ fresh. legal) refines none

  -- A step with no label, or a move of a word.
  nothing_met : (known : Known Nothing) → EndOf Nothing actor.point next.point → Met openings state (after Nothing) event actor.tenant store
  nothing_met known ends = by_place known.place (refines_by ends)
    where
      refines_by : EndOf Nothing actor.point next.point → Refines (after Nothing) actor.tenant store
      refines_by (inl (Stays same)) = turning.stands state actor next cells observation store simulated.refines sits same_tenant same_job Nothing tt same known.taken known.doors
      refines_by (inl (Settled own reply goes settled)) =
          let tells = known.settles own reply settled.1 goes in
          turning.settles state actor next cells observation store simulated.refines sits same_tenant same_job Nothing tt own reply settled tells.0 tells.1 known.taken known.doors
      refines_by (inr quitting) = turning.quits state actor next cells observation store simulated.refines sits same_tenant same_job Nothing tt quitting known.taken known.doors

      by_place : PlaceSo state actor next Nothing → Refines (after Nothing) actor.tenant store → Met openings state (after Nothing) event actor.tenant store
      by_place (ReservesNone none) refines = meets_no_label Nothing known refl refines none
      by_place (ReservesSame is keeps_it carries) refines = meets_still known keeps_it carries refines
      by_place (ReservesNew is) refines = absurd (nothing_kept is)
        where
          nothing_kept : Nothing ≡ Reserved → ⊥
          nothing_kept e = cc

  keeps_none : (label : StepLabel) → (label ≡ Nothing → ⊥) → (label ≡ Reserved → ⊥) → PlaceSo state actor next label → keeps next.point ≡ false
  keeps_none label one two (ReservesNone none) = none
  keeps_none label one two (ReservesSame is keeps_it carries) = absurd (one is)
  keeps_none label one two (ReservesNew is) = absurd (two is)

  kept_met : (known : Known Reserved) → EndOf Reserved actor.point next.point → Given state actor next Reserved → Met openings state (after Reserved) event actor.tenant store
  kept_met known ends gives =
      meets_anew known gives (turning.stands state actor next cells observation store simulated.refines sits same_tenant same_job Reserved tt ends known.taken known.doors)

  moved_met : (target : Slot) (address : ℕ) (phase : Phase) → Known (Moved target address phase) → EndOf (Moved target address phase) actor.point next.point → Met openings state (after (Moved target address phase)) event actor.tenant store
  moved_met target address phase known ends =
      meets_no_label (Moved target address phase) known refl (refines_by ends) (keeps_none (Moved target address phase) (λ e. cc) (λ e. cc) known.place)
    where
      refines_by : KeepsOn actor.point next.point → Refines (after (Moved target address phase)) actor.tenant store
      refines_by (Stays same) = turning.stands state actor next cells observation store simulated.refines sits same_tenant same_job (Moved target address phase) tt same known.taken known.doors
      refines_by (Settled own reply goes settled) =
          let tells = known.settles own reply settled.1 goes in
          turning.settles state actor next cells observation store simulated.refines sits same_tenant same_job (Moved target address phase) tt own reply settled tells.0 tells.1 known.taken known.doors

  -- A request at its door.
  admitted_met : Known Admitted → EndOf Admitted actor.point next.point → Given state actor next Admitted → Met openings state (after Admitted) event actor.tenant store
  admitted_met known ends gives =
      let used = simulated.refines.holds.used in
      let quota = simulated.refines.holds.quota in
      let doors = known.doors in
      let room = gives.1 in
      let made = marking.admitted state actor next cells observation store simulated.refines sits same_tenant same_job ends gives.0.is_change gives.0.file_works (omega (arith, used, quota, room)) (omega (arith, used, doors)) known.taken in
      meets_said Admitted known (IsAdmitted worker_state.request) made.0 refl tt made.1 (λ fresh. made.1) refl made.2 (keeps_none Admitted (λ e. cc) (λ e. cc) known.place)

  busy_met : Known FoundBusy → EndOf FoundBusy actor.point next.point → Given state actor next FoundBusy → Met openings state (after FoundBusy) event actor.tenant store
  busy_met known ends gives =
      let used = simulated.refines.holds.used in
      let quota = simulated.refines.holds.quota in
      let full = gives.1 in
      let made = marking.found_busy state actor next cells observation store simulated.refines sits same_tenant same_job ends gives.0.is_change gives.0.file_works (omega (arith, used, quota, full)) known.taken known.doors in
      meets_said FoundBusy known (IsBusy worker_state.request) made.0 refl tt made.1 (λ fresh. made.1) refl made.2 (keeps_none FoundBusy (λ e. cc) (λ e. cc) known.place)

  fault_met : Known FoundFault → EndOf FoundFault actor.point next.point → Given state actor next FoundFault → Met openings state (after FoundFault) event actor.tenant store
  fault_met known ends gives =
      let made = marking.found_fault state actor next cells observation store simulated.refines sits same_tenant same_job ends gives known.taken known.doors in
      meets_said FoundFault known (GivesUpMark worker_state.request) made.0 refl tt made.1 (λ fresh. made.1) refl made.2 (keeps_none FoundFault (λ e. cc) (λ e. cc) known.place)

  -- A read has its value.
  looked_met : Known Looked → EndOf Looked actor.point next.point → Given state actor next Looked → Met openings state (after Looked) event actor.tenant store
  looked_met known ends gives =
      let end = ends.1 in
      let made = marking.looked state actor next cells observation store simulated.refines sits same_tenant same_job gives.looks.address gives.value (end.0, gives.answers, end.2, end.3) gives.looks.reads (sym gives.looks.says) known.taken known.doors in
      meets_said Looked known (Look worker_state.request) made.0 refl tt made.1 (λ fresh. made.1) refl made.2 (keeps_none Looked (λ e. cc) (λ e. cc) known.place)

  there_met : Known LookedBefore → EndOf LookedBefore actor.point next.point → Given state actor next LookedBefore → Met openings state (after LookedBefore) event actor.tenant store
  there_met known ends gives =
      let end = ends.1 in
      let value = held_value gives.status (expected state.history gives.slot gives.seq gives.reading.address) (new state.history gives.slot gives.seq gives.reading.address) in
      let made = marking.looked_before state actor next cells observation store simulated.refines sits same_tenant same_job value (end.0, gives.answers, end.2, end.3) known.taken known.doors in
      let could : CouldLook start before worker_state.kept worker_state.request actor.job value = subst (λ (point : Point). ReservedAt state.history start before worker_state actor point) gives.is its_place.kept_for gives.acquired in
      meets_late LookedBefore known (Look worker_state.request) worker_state.request (Val value) made.0 refl (ap keeps gives.is)
      (λ r is. (
        refl,
        subst (λ (job : Job). CouldLook start before worker_state.kept worker_state.request job value)
            (sym his.its_job ∙ ap (λ (one : RequestState). one.job) (one_found (request store) worker_state.request worker_state.request his.found r refl his.is_asked is)) could,
      ))
      made.1 (λ legal. subst (λ (point : Point). LegalAt state.history legal.base before worker_state actor point) gives.is (legal.kept actor.worker actor sits refl) gives.acquired) made.2
      (keeps_none LookedBefore (λ e. cc) (λ e. cc) known.place)

  -- A change gets a slot or another status, or is refused.
  claimed_met : (own : Slot) → Known (Claimed own) → EndOf (Claimed own) actor.point next.point → Given state actor next (Claimed own) → Met openings state (after (Claimed own)) event actor.tenant store
  claimed_met own known ends gives =
      meets_no_label (Claimed own) known refl
      (turning.claimed state actor next cells observation store simulated.refines sits same_tenant same_job own ends gives.not_claimed gives.not_fault_decided gives.draft known.taken known.owns known.doors)
      (keeps_none (Claimed own) (λ e. cc) (λ e. cc) known.place)

  decided_met : (target : Slot) (status : Status) → Known (Decided target status) → EndOf (Decided target status) actor.point next.point → Given state actor next (Decided target status)
      → Met openings state (after (Decided target status)) event actor.tenant store
  decided_met target status known ends gives =
      meets_no_label (Decided target status) known refl
      (turning.decided state actor next cells observation store simulated.refines sits same_tenant same_job target status gives.tells_same ends known.taken known.doors tenant_state.file refl refl refl)
      (keeps_none (Decided target status) (λ e. cc) (λ e. cc) known.place)

  refused_met : (target : Slot) (entry value : ℕ) → Known (Refused target entry value) → EndOf (Refused target entry value) actor.point next.point → Given state actor next (Refused target entry value)
      → Met openings state (after (Refused target entry value)) event actor.tenant store
  refused_met target entry value known ends gives = by_fault_decided (state.history.is_fault_decided target.slot target.seq) refl
    where
      none : keeps next.point ≡ false
      none = keeps_none (Refused target entry value) (λ e. cc) (λ e. cc) known.place

      address_is : (entry_of actor gives.task entry).addr ≡ (entry_at (state.history.change target.slot target.seq) entry).addr
      address_is = ap (λ (entries : List Entry). (entry_at entries entry).addr) gives.same_entries

      -- what could take place at the reserved place
      could : CouldMiss start before worker_state.kept (state.history.request target.slot target.seq) (state.history.change target.slot target.seq) entry (entry_at (state.history.change target.slot target.seq) entry).addr value
      could =
          subst (λ (address : ℕ). CouldMiss start before worker_state.kept (state.history.request target.slot target.seq) (state.history.change target.slot target.seq) entry address value) address_is
          (subst (λ (one : Slot). CouldMiss start before worker_state.kept (state.history.request one.slot one.seq) (state.history.change one.slot one.seq) entry (entry_of actor gives.task entry).addr value) (sym gives.same_target)
          (subst (λ (point : Point). ReservedAt state.history start before worker_state actor point) gives.is its_place.kept_for))

      legal_there : (legal : IsLegalTo openings state actor.tenant store)
          → IsReservedFor legal.base before worker_state.kept (Miss (state.history.request target.slot target.seq) entry) (state.history.request target.slot target.seq) (SaysNo (entry_at (state.history.change target.slot target.seq) entry).addr value)
      legal_there legal =
          subst (λ (address : ℕ). IsReservedFor legal.base before worker_state.kept (Miss (state.history.request target.slot target.seq) entry) (state.history.request target.slot target.seq) (SaysNo address value)) address_is
          (subst (λ (one : Slot). IsReservedFor legal.base before worker_state.kept (Miss (state.history.request one.slot one.seq) entry) (state.history.request one.slot one.seq) (SaysNo (entry_of actor gives.task entry).addr value))
          (sym gives.same_target) (subst (λ (point : Point). LegalAt state.history legal.base before worker_state actor point) gives.is (legal.kept actor.worker actor sits refl)))

      by_fault_decided : (fault_decided : Bool) → state.history.is_fault_decided target.slot target.seq ≡ fault_decided → Met openings state (after (Refused target entry value)) event actor.tenant store
      by_fault_decided true is =
          meets_no_label (Refused target entry value) known
          (ap (λ (b : Bool). late_unless b before worker_state.kept (Miss (state.history.request target.slot target.seq) entry)) is)
          (turning.refused_late state actor next cells observation store simulated.refines sits same_tenant same_job target entry value is ends known.taken known.doors) none
      by_fault_decided false is =
          let row = simulated.refines.asks.changes.asked target.slot target.seq gives.its in
          let made = marking.refused state actor next cells observation store simulated.refines sits same_tenant same_job target entry value gives.its gives.is_open is ends known.taken known.doors in
          meets_late (Refused target entry value) known (Miss (state.history.request target.slot target.seq) entry) (state.history.request target.slot target.seq)
          (SaysNo (entry_at (state.history.change target.slot target.seq) entry).addr value) made.0
          (ap (λ (b : Bool). late_unless b before worker_state.kept (Miss (state.history.request target.slot target.seq) entry)) is) (ap keeps gives.is)
          (λ r asked. (
            refl,
            subst (λ (entries : List Entry). CouldMiss start before worker_state.kept (state.history.request target.slot target.seq) entries entry (entry_at (state.history.change target.slot target.seq) entry).addr value)
                (sym row.its_entries ∙ ap (λ (one : RequestState). entries_of one.job) (one_found (request store) _ _ row.found r refl row.is_asked asked)) could,
          ))
          made.1 legal_there made.2 none

  -- A slot is given back.
  freed_met : (slot : Slot) → Known (Freed slot) → EndOf (Freed slot) actor.point next.point → Given state actor next (Freed slot) → Met openings state (after (Freed slot)) event actor.tenant store
  freed_met slot known ends gives =
      meets_no_label (Freed slot) known refl
      (turning.freed state actor next cells observation store simulated.refines sits same_tenant same_job slot gives.reply ends known.frees gives.its gives.live known.taken.1 gives.has_reply known.taken.0 known.doors)
      (keeps_none (Freed slot) (λ e. cc) (λ e. cc) known.place)

  gives_back : (n : ℕ) (t : Store) → Retires store n t → GivesBack store n t
  gives_back n t retires = record { found = retires.found; is_asked = retires.is_asked; has_slot = retires.has_slot; not_retired = retires.not_retired; after = retires.after }

  lowered_met : Known IsLowered → EndOf IsLowered actor.point next.point → Given state actor next IsLowered → Met openings state (after IsLowered) event actor.tenant store
  lowered_met known (inl ends) gives =
      let used = simulated.refines.holds.used in
      let made = marking.lowered state actor next cells observation store simulated.refines sits same_tenant same_job ends (known.doors ∙ ap (λ (n : ℕ). n - 1) used) known.taken in
      meets_said IsLowered known (Retire worker_state.retiring) made.0 refl tt (gives_back worker_state.retiring made.0 made.1) (λ fresh. made.1) refl made.2 (keeps_none IsLowered (λ e. cc) (λ e. cc) known.place)
  lowered_met known (inr ends) gives =
      let used = simulated.refines.holds.used in
      let made = marking.dropped state actor next cells observation store simulated.refines sits same_tenant same_job ends (gives ends.3) (known.doors ∙ ap (λ (n : ℕ). n - 1) used) known.taken in
      meets_said IsLowered known (Retire worker_state.retiring) made.0 refl tt made.1 (λ fresh. absurd (both (sym (fresh.points actor.worker actor sits) ∙ dropping_worn actor.point ends.3))) refl made.2
      (keeps_none IsLowered (λ e. cc) (λ e. cc) known.place)
    where
      both : false ≡ true → ⊥
      both e = cc

  -- A request gives up.
  gave_fault_met : (own : Slot) → Known (GaveUp own true) → EndOf (GaveUp own true) actor.point next.point → Given state actor next (GaveUp own true) → Met openings state (after (GaveUp own true)) event actor.tenant store
  gave_fault_met own known ends gives = by_fault_decided (state.history.is_fault_decided own.slot own.seq) refl
    where
      none : keeps next.point ≡ false
      none = keeps_none (GaveUp own true) (λ e. cc) (λ e. cc) known.place

      by_fault_decided : (fault_decided : Bool) → state.history.is_fault_decided own.slot own.seq ≡ fault_decided → Met openings state (after (GaveUp own true)) event actor.tenant store
      by_fault_decided true is =
          meets_no_label (GaveUp own true) known (ap (λ (b : Bool). more_unless b before (GivesUpMark worker_state.request)) is)
          (turning.gave_up_again state actor next cells observation store simulated.refines sits same_tenant same_job own ends gives.its is known.taken known.doors) none
      by_fault_decided false is =
          let made = marking.gave_up_first state actor next cells observation store simulated.refines sits same_tenant same_job own ends gives.its (gives.tells_nothing is) gives.has_failed known.taken known.doors in
          meets_said (GaveUp own true) known (GivesUpMark worker_state.request) made.0 (ap (λ (b : Bool). more_unless b before (GivesUpMark worker_state.request)) is) tt made.1 (λ fresh. made.1) refl made.2 none

  gave_reply_met : (own : Slot) → Known (GaveUp own false) → EndOf (GaveUp own false) actor.point next.point → Given state actor next (GaveUp own false) → Met openings state (after (GaveUp own false)) event actor.tenant store
  gave_reply_met own known ends gives = meets_no_label (GaveUp own false) known refl (refines_by ends) (keeps_none (GaveUp own false) (λ e. cc) (λ e. cc) known.place)
    where
      refines_by : EndOf (GaveUp own false) actor.point next.point → Refines (after (GaveUp own false)) actor.tenant store
      refines_by (inl end) =
          turning.settles state actor next cells observation store simulated.refines sits same_tenant same_job (GaveUp own false) tt own end.0 end.1 gives.its (gives.tells end.0 end.1.2) known.taken known.doors
      refines_by (inr quitting) = turning.quits state actor next cells observation store simulated.refines sits same_tenant same_job (GaveUp own false) tt quitting known.taken known.doors

  -- Any label of a step that is not a call on a file, and so not a seal.
  abbrev pub IsOfTurn : StepLabel → Type 0
  IsOfTurn (SealedIt target) = ⊥
  IsOfTurn (FailedToSeal target) = ⊥
  IsOfTurn FailedFile = ⊥
  IsOfTurn label = Unit {0}

  pub label_met : (label : StepLabel) → IsOfTurn label → Known label → EndOf label actor.point next.point → Given state actor next label → Met openings state (after label) event actor.tenant store
  label_met Nothing turns known ends gives = nothing_met known ends
  label_met Admitted turns known ends gives = admitted_met known ends gives
  label_met FoundBusy turns known ends gives = busy_met known ends gives
  label_met FoundFault turns known ends gives = fault_met known ends gives
  label_met Looked turns known ends gives = looked_met known ends gives
  label_met Reserved turns known ends gives = kept_met known ends gives
  label_met LookedBefore turns known ends gives = there_met known ends gives
  label_met (Claimed own) turns known ends gives = claimed_met own known ends gives
  label_met (Decided target status) turns known ends gives = decided_met target status known ends gives
  label_met (Refused target entry value) turns known ends gives = refused_met target entry value known ends gives
  label_met (Moved target address phase) turns known ends gives = moved_met target address phase known ends
  label_met (Freed slot) turns known ends gives = freed_met slot known ends gives
  label_met IsLowered turns known ends gives = lowered_met known ends gives
  label_met (GaveUp own true) turns known ends gives = gave_fault_met own known ends gives
  label_met (GaveUp own false) turns known ends gives = gave_reply_met own known ends gives
  label_met (SealedIt target) turns known ends gives = absurd turns
  label_met (FailedToSeal target) turns known ends gives = absurd turns
  label_met FailedFile turns known ends gives = absurd turns
