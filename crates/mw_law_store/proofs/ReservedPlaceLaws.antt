-- The places that workers have reserved in a tenant's history stay reserved while other workers make steps.
-- Used by: Met, StepsWithoutPlace, Turned, among others.
use Rattle.std.specs.Prelude.{ℕ, ◌≡◌, ◌≢◌, ◌≤◌, ◌⊎◌, true, List, length, slice_get, slice_set, Option, Some, None}
use Rattle.std.proofs.Common.{refl, sym, ap, subst, ◌∙◌, inl, inr, arith}
use Rattle.std.specs.Option.{option_map_or}
use Rattle.std.proofs.lemmas.Bool.{cases_eq}
use Rattle.mw_world.proofs.MapLaws.{get_others}
use Rattle.mw_words.specs.declared.jobs.Entry.{Entry}
use Rattle.mw_words.specs.declared.jobs.Job.{Job}
use Rattle.mw_words.specs.declared.replies.Reply.{Reply}
use Rattle.mw_words.specs.declared.statuses.Status.{Status}
use Rattle.mw_lone.specs.declared.marks.Mark.{Mark}
use Rattle.mw_lone.specs.Store.{Store}
use Rattle.mw_look.specs.declared.points.Point.{Point as ReadPoint}
use Rattle.mw_look.specs.declared.points.Point.TheVariants.{FindEntry, ReadExpected as ReadExpectedOfRead, ReadNew as ReadNewOfRead, RecheckWord}
use Rattle.mw_look.specs.declared.points.Trail.{Trail}
use Rattle.mw_look.specs.declared.points.Trail.TheVariants.{Held as ByHeld, Planted as ByPlanted}
use Rattle.mw_actor.specs.declared.points.Point.{Point}
use Rattle.mw_actor.specs.declared.points.Point.TheVariants.{Read, DecideNo}
use Rattle.mw_actor.specs.ActorState.{ActorState, entry_of}
use Rattle.mw_world.specs.Definition.History.{History, entry_for}
use Rattle.mw_world.specs.Definition.Logical.{held_value}
use Rattle.mw_world.specs.Definition.State.{State, WorkerState}
use Rattle.mw_law_runs.specs.Moves.Rely.{Rely}
use Rattle.mw_law_runs.specs.Knowledge.Facts.{CameBy}
use Rattle.mw_law_runs.specs.Knowledge.Points.{Knows, ReadKnows}
use Rattle.mw_law_store.specs.RelaxedSteps.{StoreLabel, NoLabel, Says, ReservesPlace, MarksLate, lines_after, RelaxedLabelStep}
use Rattle.mw_law_store.specs.ReservedPlaces.{keeps, keeps_by, keeps_in_read, PlacedBy, PlacedInRead, PlacedAt, Refusals, HasReserved, Reserved}
use Rattle.mw_law_store.specs.AbstractStates.{AbstractState, CouldLook, CouldMiss}
use Rattle.mw_law_store.specs.HistoryMatches.{MayBeLabeled}
use Rattle.mw_law_store.proofs.Legal.{IsElse}
use Rattle.mw_law_store.proofs.AbstractStateLaws.{IsMild, got_before, got_within}
use Rattle.mw_law_store.proofs.PlacesAfterLine.{coming_is_mild, look_before, miss_before, look_late, miss_late}

-- What could take place at a place still could, if each value and each refusal that could still can.
module _ (past : History) (looks then : ℕ → Type 0) (misses fails : Refusals) (actor : ActorState) where
  placed_by : (address : ℕ) (trail : Trail) (status : Status) → (keeps_by trail ≡ true → (value : ℕ) → looks value → then value) → PlacedBy past looks address trail status → PlacedBy past then address trail status
  placed_by address (ByHeld slot seq) status so placed = λ acquired. so refl _ (placed acquired)
  placed_by address (ByPlanted worker number row) status so placed = tt

  placed_in_read : (address : ℕ) (point : ReadPoint) → (keeps_in_read point ≡ true → (value : ℕ) → looks value → then value) → PlacedInRead past looks address point → PlacedInRead past then address point
  placed_in_read address (FindEntry trail status entry) so placed = placed_by address trail status so placed
  placed_in_read address (ReadExpectedOfRead trail status entry) so placed = placed_by address trail status so placed
  placed_in_read address (ReadNewOfRead trail status entry was) so placed = placed_by address trail status so placed
  placed_in_read address (RecheckWord trail status was written) so placed = placed_by address trail status so placed
  placed_in_read address point so placed = tt

  pub placed_so : (point : Point) → (keeps point ≡ true → (value : ℕ) → looks value → then value)
      → (keeps point ≡ true → (n : ℕ) (entries : List Entry) (index address value : ℕ) → misses n entries index address value → fails n entries index address value)
      → PlacedAt past looks misses actor point → PlacedAt past then fails actor point
  placed_so (Read look) so too placed = placed_in_read look.address look.point so placed
  placed_so (DecideNo task entry value) so too placed = too refl _ _ _ _ _ placed
  placed_so point so too placed = tt

-- What could take place at a place still could, while other workers go on.
module _ (by : ℕ) (old new : State) (later : Rely by old new) (looks : ℕ → Type 0) (misses : Refusals) (actor : ActorState) where
  by_stays : (tenant address : ℕ) (trail : Trail) (status : Status) → CameBy old tenant address trail → PlacedBy old.history looks address trail status → PlacedBy new.history looks address trail status
  by_stays tenant address (ByHeld slot seq) status came placed = λ acquired.
      subst (λ (entries : List Entry). looks (held_value status (expects entries) (writes entries))) (sym (later.births slot seq came.known.is_claimed).change)
      (placed (later.was_acquired slot seq address came.touched acquired))
    where
      expects : List Entry → ℕ
      expects entries = option_map_or (λ entry. entry.expected) (entry_for entries address) 0

      writes : List Entry → ℕ
      writes entries = option_map_or (λ entry. entry.new) (entry_for entries address) 0
  by_stays tenant address (ByPlanted worker number row) status came placed = tt

  read_stays : (tenant address : ℕ) (point : ReadPoint) → ReadKnows old tenant address point → PlacedInRead old.history looks address point → PlacedInRead new.history looks address point
  read_stays tenant address (FindEntry trail status entry) knows placed = by_stays tenant address trail status knows placed
  read_stays tenant address (ReadExpectedOfRead trail status entry) knows placed = by_stays tenant address trail status knows placed
  read_stays tenant address (ReadNewOfRead trail status entry was) knows placed = by_stays tenant address trail status knows placed
  read_stays tenant address (RecheckWord trail status was written) knows placed = by_stays tenant address trail status knows placed
  read_stays tenant address point knows placed = tt

  pub placed_stays : (point : Point) → Knows old actor point → PlacedAt old.history looks misses actor point → PlacedAt new.history looks misses actor point
  placed_stays (Read look) knows placed = read_stays look.tenant look.address look.point knows placed
  placed_stays (DecideNo task entry value) knows placed =
      let claimed = later.births task.target.slot task.target.seq knows.0.works.at_work.target.is_claimed in
      subst (λ (n : ℕ). misses n (new.history.change task.target.slot task.target.seq) entry (entry_of actor task entry).addr value) (sym claimed.request)
      (subst (λ (entries : List Entry). misses (old.history.request task.target.slot task.target.seq) entries entry (entry_of actor task entry).addr value) (sym claimed.change) placed)
  placed_stays point knows placed = tt

-- What could take place at a reserved place still could after any label.
module _ (start : AbstractState) (lines : List (Option Mark)) (says : StoreLabel) (store after : Store) (may : MayBeLabeled start lines says store) (goes : RelaxedLabelStep says store after) where
  late_is_mild : (late : ℕ) (mark : Mark) (n : ℕ) (reply : Reply) → MayBeLabeled start lines (MarksLate late mark n reply) store → RelaxedLabelStep (MarksLate late mark n reply) store after → IsMild mark
  late_is_mild late mark n reply may goes = coming_is_mild start lines late mark n goes.found.job reply (may.1 goes.found goes.is_open.is_asked)

  look_stays_by : (said : StoreLabel) → MayBeLabeled start lines said store → RelaxedLabelStep said store after → (place n : ℕ) (job : Job) (value : ℕ) → place ≤ length lines → CouldLook start lines place n job value
      → CouldLook start (lines_after said lines) place n job value
  look_stays_by NoLabel may goes place n job value within could = could
  look_stays_by (Says mark) may goes place n job value within could = look_before start lines (Some mark) place n job value within could
  look_stays_by ReservesPlace may goes place n job value within could = look_before start lines None place n job value within could
  look_stays_by (MarksLate late mark k reply) may goes place n job value within could = look_late start lines late mark place n job value (late_is_mild late mark k reply may goes) may.0 could

  miss_stays_by : (said : StoreLabel) → MayBeLabeled start lines said store → RelaxedLabelStep said store after → (place n : ℕ) (entries : List Entry) (index address value : ℕ) → place ≤ length lines
      → CouldMiss start lines place n entries index address value → CouldMiss start (lines_after said lines) place n entries index address value
  miss_stays_by NoLabel may goes place n entries index address value within could = could
  miss_stays_by (Says mark) may goes place n entries index address value within could = miss_before start lines (Some mark) place n entries index address value within could
  miss_stays_by ReservesPlace may goes place n entries index address value within could = miss_before start lines None place n entries index address value within could
  miss_stays_by (MarksLate late mark k reply) may goes place n entries index address value within could =
      miss_late start lines late mark place n entries index address value (late_is_mild late mark k reply may goes) may.0 could

  got_else : (late place : ℕ) (mark : Mark) → place ≢ late → slice_get (slice_set lines late (Some mark)) place ≡ slice_get lines place
  got_else late place mark other = get_others lines late place (Some mark) other

  empty_stays_by : (said : StoreLabel) (place : ℕ) → IsElse place said → slice_get lines place ≡ Some None → slice_get (lines_after said lines) place ≡ Some None
  empty_stays_by NoLabel place other empty = empty
  empty_stays_by (Says mark) place other empty = got_before lines (Some mark) None place empty
  empty_stays_by ReservesPlace place other empty = got_before lines None None place empty
  empty_stays_by (MarksLate late mark n reply) place other empty = got_else late place mark other ∙ empty

  -- so a worker's place stays reserved
  pub keeping_stays : (past : History) (worker_state : WorkerState) (actor : ActorState) → (keeps actor.point ≡ true → IsElse worker_state.kept says) → HasReserved past start lines worker_state actor → HasReserved past start (lines_after says lines) worker_state actor
  keeping_stays past worker_state actor other acquired =
      let within : keeps actor.point ≡ true → worker_state.kept ≤ length lines = λ keeps. (let low = got_within lines None worker_state.kept (acquired.is_empty keeps) in omega (arith, low)) in
      record {
        is_empty = λ keeps. empty_stays_by says worker_state.kept (other keeps) (acquired.is_empty keeps);
        kept_for =
            placed_so past (λ value. CouldLook start lines worker_state.kept worker_state.request actor.job value) (λ value. CouldLook start (lines_after says lines) worker_state.kept worker_state.request actor.job value)
            (λ n entries index address value. CouldMiss start lines worker_state.kept n entries index address value) (λ n entries index address value. CouldMiss start (lines_after says lines) worker_state.kept n entries index address value)
            actor actor.point
            (λ keeps value could. look_stays_by says may goes worker_state.kept worker_state.request actor.job value (within keeps) could)
            (λ keeps n entries index address value could. miss_stays_by says may goes worker_state.kept n entries index address value (within keeps) could) acquired.kept_for;
      }

-- A late mark is put in at the reserved place of a request of the tenant.
pub record IsPlaceOf (tenant place : ℕ) (worker_state : WorkerState) : Type 0 where
  pub actor : ActorState
  pub is : worker_state.actor ≡ Some actor
  pub same_tenant : actor.tenant ≡ tenant
  pub keeps_one : keeps actor.point ≡ true
  pub place_is : place ≡ worker_state.kept

abbrev pub IsOwnPlace : StoreLabel → ℕ → WorkerState → Type 0
IsOwnPlace (MarksLate late mark n reply) tenant worker_state = IsPlaceOf tenant late worker_state
IsOwnPlace said tenant worker_state = Unit {0}

-- All reserved places of a tenant, when one worker goes on.
module _ (worker tenant : ℕ) (start : AbstractState) (old new : State) (says : StoreLabel) (store after : Store) (may : MayBeLabeled start (old.tenant_states tenant).lines says store) (goes : RelaxedLabelStep says store after)
    (kept : Reserved old tenant start) (lines : (new.tenant_states tenant).lines ≡ lines_after says (old.tenant_states tenant).lines)
    (others : (other : ℕ) → other ≢ worker → new.worker_states other ≡ old.worker_states other)
    (stays : (other : ℕ) (actor : ActorState) → other ≢ worker → (old.worker_states other).actor ≡ Some actor → (looks : ℕ → Type 0) (misses : Refusals) → PlacedAt old.history looks misses actor actor.point
    → PlacedAt new.history looks misses actor actor.point)
    (own : IsOwnPlace says tenant (old.worker_states worker)) where
  pub was_there : (other : ℕ) (actor : ActorState) → other ≢ worker → (new.worker_states other).actor ≡ Some actor → (old.worker_states other).actor ≡ Some actor
  was_there other actor apart is = ap (λ (worker_state : WorkerState). worker_state.actor) (sym (others other apart)) ∙ is

  pub else_by : (said : StoreLabel) → IsOwnPlace said tenant (old.worker_states worker) → (other : ℕ) (actor : ActorState) → other ≢ worker → (old.worker_states other).actor ≡ Some actor → actor.tenant ≡ tenant → keeps actor.point ≡ true
      → IsElse (old.worker_states other).kept said
  else_by NoLabel own other actor apart is same keeps = tt
  else_by (Says mark) own other actor apart is same keeps = tt
  else_by ReservesPlace own other actor apart is same keeps = tt
  else_by (MarksLate late mark n reply) own other actor apart is same keeps = λ met. kept.apart other worker actor own.actor apart is own.is same own.same_tenant keeps own.keeps_one (met ∙ own.place_is)

  other_keeps : (other : ℕ) (actor : ActorState) → other ≢ worker → (new.worker_states other).actor ≡ Some actor → actor.tenant ≡ tenant → HasReserved new.history start (new.tenant_states tenant).lines (new.worker_states other) actor
  other_keeps other actor apart is same =
      let sat = was_there other actor apart is in
      let still = keeping_stays start (old.tenant_states tenant).lines says store after may goes old.history (old.worker_states other) actor
      (λ keeps. else_by says own other actor apart sat same keeps) (kept.each other actor sat same) in
      subst (λ (now : List (Option Mark)). HasReserved new.history start now (new.worker_states other) actor) (sym lines)
      (subst (λ (worker_state : WorkerState). HasReserved new.history start (lines_after says (old.tenant_states tenant).lines) worker_state actor) (sym (others other apart))
      (record {
        is_empty = still.is_empty;
        kept_for = stays other actor apart sat
            (λ value. CouldLook start (lines_after says (old.tenant_states tenant).lines) (old.worker_states other).kept (old.worker_states other).request actor.job value)
            (λ n entries index address value. CouldMiss start (lines_after says (old.tenant_states tenant).lines) (old.worker_states other).kept n entries index address value) still.kept_for;
      }))

  -- the worker's place is where it was, or at the end of the lines
  abbrev pub PlaceGoesOn : Type 0
  PlaceGoesOn = IsPlaceOf tenant (new.worker_states worker).kept (old.worker_states worker) ⊎ ((new.worker_states worker).kept ≡ length (old.tenant_states tenant).lines)

  apart_from : (other : ℕ) (actor : ActorState) → other ≢ worker → (new.worker_states other).actor ≡ Some actor → actor.tenant ≡ tenant → keeps actor.point ≡ true → PlaceGoesOn → (new.worker_states worker).kept ≢ (new.worker_states other).kept
  apart_from other actor apart is same keeps (inl place) = λ met.
      kept.apart other worker actor place.actor apart (was_there other actor apart is) place.is same place.same_tenant keeps place.keeps_one
      (ap (λ (worker_state : WorkerState). worker_state.kept) (sym (others other apart)) ∙ sym met ∙ place.place_is)
  apart_from other actor apart is same keeps (inr last) = λ met.
      let sat = was_there other actor apart is in
      let low = got_within (old.tenant_states tenant).lines None (old.worker_states other).kept ((kept.each other actor sat same).is_empty keeps) in
      let at : (old.worker_states other).kept ≡ length (old.tenant_states tenant).lines = ap (λ (worker_state : WorkerState). worker_state.kept) (sym (others other apart)) ∙ sym met ∙ last in
      omega (arith, low, at)

  pub kept_goes_on : ((actor : ActorState) → (new.worker_states worker).actor ≡ Some actor → actor.tenant ≡ tenant → HasReserved new.history start (new.tenant_states tenant).lines (new.worker_states worker) actor × (keeps actor.point ≡ true → PlaceGoesOn))
      → Reserved new tenant start
  kept_goes_on mine = record {
    each = λ other actor is same. elim (cases_eq other worker) [
      | inl met ↦ subst (λ (worker_state : WorkerState). HasReserved new.history start (new.tenant_states tenant).lines worker_state actor) (ap new.worker_states (sym met)) (mine actor (ap (λ (n : ℕ). (new.worker_states n).actor) (sym met) ∙ is) same).0
      | inr apart ↦ other_keeps other actor apart is same
    ];
    apart = λ one other actor another differ is too same its keeps holds. elim (cases_eq one worker) [
      | inl met ↦ (λ at. apart_from other another (λ back. differ (met ∙ sym back)) too its holds ((mine actor (ap (λ (n : ℕ). (new.worker_states n).actor) (sym met) ∙ is) same).1 keeps)
          (ap (λ (n : ℕ). (new.worker_states n).kept) (sym met) ∙ at))
      | inr apart ↦ elim (cases_eq other worker) [
        | inl back ↦ (λ at. apart_from one actor apart is same keeps ((mine another (ap (λ (n : ℕ). (new.worker_states n).actor) (sym back) ∙ too) its).1 holds)
            (ap (λ (n : ℕ). (new.worker_states n).kept) (sym back) ∙ sym at))
        | inr away ↦ (λ at. kept.apart one other actor another differ (was_there one actor apart is) (was_there other another away too) same its keeps holds
            (ap (λ (worker_state : WorkerState). worker_state.kept) (sym (others one apart)) ∙ at ∙ ap (λ (worker_state : WorkerState). worker_state.kept) (others other away)))
      ]
    ];
  }
