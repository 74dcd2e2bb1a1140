-- While a request is at a call on its file, no other worker changes the status from which the call starts, except by a call
-- on the same file.
-- Used by: callers_status_stays, mw_rule.
use Rattle.std.specs.Prelude.{ℕ, ◌≡◌, ◌≢◌, ◌⊎◌, ◌==◌, ◌++◌, Bool, true, false, not, cond, ◌&&◌, is_some, if◌then◌else◌, [], ◌∷◌, Option, Some, None}
use Rattle.std.proofs.Common.{refl, sym, ap, subst, ◌∙◌, inl, inr, arith}
use Rattle.std.proofs.lemmas.Bool.Decides.{nat_tests}
use Rattle.mw_words.specs.declared.places.At.{At}
use Rattle.mw_words.specs.declared.places.At.TheVariants.{Door as AtDoor, Gate as AtGate, Row as AtRow, Data, Status as AtStatus, Count, Addr, Expected, New}
use Rattle.mw_words.specs.declared.statuses.Status.{Status}
use Rattle.mw_words.specs.declared.statuses.Status.TheVariants.{Draft, Open, YesDirty, No}
use Rattle.mw_look.specs.declared.observations.Observation.{Observation}
use Rattle.mw_look.specs.declared.observations.Observation.TheVariants.{Won, Lost, Filed}
use Rattle.mw_look.specs.declared.points.Point.{Point as ReadPoint}
use Rattle.mw_look.specs.declared.points.Point.TheVariants.{ReadDoor}
use Rattle.mw_look.specs.declared.steps.Call.{Call}
use Rattle.mw_look.specs.declared.steps.Call.TheVariants.{Prepare as PrepareCall, Seal as SealCall, Settle as SettleCall, Cancel as CancelCall}
use Rattle.mw_look.specs.declared.steps.Kind.{Kind}
use Rattle.mw_look.specs.Places.{Val, Fits, pack}
use Rattle.mw_look.specs.Program.{asks_at as read_asks_at}
use Rattle.mw_look.specs.Steps.{Step, Load, Change, File as FileStep}
use Rattle.mw_actor.specs.declared.points.Point.{Point}
use Rattle.mw_actor.specs.declared.points.Point.TheVariants.{Read, FillStatus, DecideYes, DecideNo, Prepare, Seal, Settle, Cancel}
use Rattle.mw_actor.specs.declared.points.Slot.{Slot}
use Rattle.mw_actor.specs.ActorState.{ActorState}
use Rattle.mw_actor.specs.Asks.{asks, asks_at}
use Rattle.mw_actor.specs.Program.{replied}
use Rattle.mw_world.specs.declared.outcomes.Outcome.{Outcome}
use Rattle.mw_world.specs.declared.outcomes.Outcome.TheVariants.{Good, Fail}
use Rattle.mw_world.specs.Maps.{upd}
use Rattle.mw_world.specs.declared.config.Config.{Config}
use Rattle.mw_world.specs.Claim.BitExactness.{CallersStatusStays, IsBeside}
use Rattle.mw_world.specs.Definition.Calls.{Called, call, call_if, called_at, fails_on, starts_from}
use Rattle.mw_world.specs.Definition.Cells.{Cells, read, write}
use Rattle.mw_look.specs.declared.steps.Shape.{Shape}
use Rattle.mw_look.specs.declared.steps.Shape.TheVariants.{Exchange, Store, Fetch}
use Rattle.mw_look.specs.Shapes.{shape_of}
use Rattle.mw_world.specs.Definition.Changes.{fetched, changed, done}
use Rattle.mw_world.specs.Definition.Events.{WorldEvent, Step as StepEvent, File as FileEvent}
use Rattle.mw_world.specs.Definition.State.{State}
use Rattle.mw_world.specs.Definition.Turns.{turn, turned, may_make, moved, made_of}
use Rattle.mw_world.specs.Definition.World.{step}
use Rattle.mw_law_runs.specs.Moves.Moves.{SetDoor, made_all}
use Rattle.mw_law_runs.specs.Moves.StepMoves.{broken_moves, faulted, moves_called, moves_of_call, next_of, set_intent, status_moves}
use Rattle.mw_law_runs.proofs.Moves.CallMoves.{calls_are_moves}
use Rattle.mw_law_runs.proofs.Moves.StepsKeepMemory.{exchanges_are_typed}
use Rattle.mw_law_runs.specs.Knowledge.Informed.{IsInformed}
use Rattle.mw_law_runs.specs.Knowledge.NextState.{KnowsItsPoint}
use Rattle.mw_law_runs.proofs.Knowledge.Updates.Preservation.{upd_else}
use Rattle.mw_law_runs.specs.RunInvariant.{IsSound}
use Rattle.mw_law_runs.proofs.Callers.{of_caller}
use Rattle.mw_law_runs.proofs.Numbers.{same_or_other}
use Rattle.mw_law_runs.proofs.Obligations.Pins.{none_some, some_same}
use Rattle.mw_law_runs.proofs.RunsAreSound.{runs_are_sound}

-- the step changes no status
abbrev IsElsewhere : At → Type 0
IsElsewhere (AtStatus slot) = ⊥
IsElsewhere at = Unit {0}

abbrev LeavesStatuses : Step → Type 0
LeavesStatuses (Change kind at from to) = IsElsewhere at
LeavesStatuses asked = Unit {0}

same_statuses : (cells : Cells) (at : At) (x : Val at) (slot : ℕ) → IsElsewhere at → (write cells at x).statuses slot ≡ cells.statuses slot
same_statuses cells (AtDoor tenant) x slot apart = refl
same_statuses cells (AtGate other) x slot apart = refl
same_statuses cells (AtRow worker) x slot apart = refl
same_statuses cells (Data tenant address) x slot apart = refl
same_statuses cells (AtStatus other) x slot apart = absurd apart
same_statuses cells (Count other) x slot apart = refl
same_statuses cells (Addr other entry) x slot apart = refl
same_statuses cells (Expected other entry) x slot apart = refl
same_statuses cells (New other entry) x slot apart = refl

module _ {A : Type 0} (P : A → Type 0) (cells : Cells) (slot : ℕ) (next : Cells → Observation → A) (all : (after : Cells) (observation : Observation) → after.statuses slot ≡ cells.statuses slot → P (next after observation)) where
  chosen : (test : Bool) (one other : A) → P one → P other → P (cond test one other)
  chosen true one other is isnt = is
  chosen false one other is isnt = isnt

  after_change : (shape : Shape) (kind : Kind) (at : At) (from to : Val at) → IsElsewhere at → P (changed shape kind at from to cells next)
  after_change Exchange kind at from to apart =
      chosen (pack at (read cells at) == pack at from) (next (write cells at to) Won) (next cells Lost) (all (write cells at to) Won (same_statuses cells at to slot apart)) (all cells Lost refl)
  after_change Store kind at from to apart = all (write cells at to) Won (same_statuses cells at to slot apart)
  after_change Fetch kind at from to apart = all (write cells at (fetched kind at (read cells at))) _ (same_statuses cells at (fetched kind at (read cells at)) slot apart)

  after_step : (asked : Step) → LeavesStatuses asked → P (done asked cells next)
  after_step (Load at) apart = all cells _ refl
  after_step (Change kind at from to) apart = after_change (shape_of kind) kind at from to apart
  after_step (FileStep call other) apart = all cells _ refl

-- no step of a read changes a status
reads_leave : (tenant address : ℕ) (point : ReadPoint) → LeavesStatuses (read_asks_at tenant address point)
reads_leave tenant address ReadDoor = tt
reads_leave tenant address point = tt

not_open : (call : Call) → starts_from call Open ≡ true → ⊥
not_open PrepareCall is = cc
not_open SealCall is = cc
not_open SettleCall is = cc
not_open CancelCall is = cc

-- What is known of the change of a call, for what others may do to its status.
abbrev IsKeptBy : State → ActorState → Slot → Type 0
IsKeptBy state actor change = (state.history.owner change.slot change.seq ≡ actor.worker) ⊎ (state.history.fate change.slot change.seq ≢ Draft)

kept_by : (state : State) (actor : ActorState) (point : Point) (called : Called) → KnowsItsPoint state (record actor { point = point }) → called_at point ≡ Some called → IsKeptBy state actor called.change
kept_by state actor (Prepare own) called knows is = subst (λ (one : Called). IsKeptBy state actor one.change) (some_same _ called is) (inl knows.knows.drafted.own.same_worker)
kept_by state actor (Seal task) called knows is = subst (λ (one : Called). IsKeptBy state actor one.change) (some_same _ called is) (inr knows.knows.0.at_work.target.ready)
kept_by state actor (Settle task) called knows is = subst (λ (one : Called). IsKeptBy state actor one.change) (some_same _ called is) (inr knows.knows.0.at_work.target.ready)
kept_by state actor (Cancel task) called knows is = subst (λ (one : Called). IsKeptBy state actor one.change) (some_same _ called is) (inr knows.knows.0.at_work.target.ready)
kept_by state actor point called knows is = absurd (none_some called is)

module _ (config : Config) (state next : State) (sound : IsSound config state) (worker other : ℕ) (actor another : ActorState) (called : Called) (sits : (state.worker_states worker).actor ≡ Some actor)
    (at : called_at actor.point ≡ Some called) (starts : starts_from called.call (state.cells.statuses called.change.slot) ≡ true) (apart : other ≢ worker)
    (there : (state.worker_states other).actor ≡ Some another) where
  abbrev slot : ℕ
  slot = called.change.slot

  number : (state.cells.gates slot).seq ≡ called.change.seq
  number = (of_caller config state worker actor called sound sits at).pinned.1

  abbrev Stays : State → Type 0
  Stays after = after.cells.statuses slot ≡ state.cells.statuses slot

  -- the other worker's draft is another change
  no_draft : (own : Slot) → own.slot ≡ slot → (state.cells.gates own.slot).seq ≡ own.seq → state.history.owner own.slot own.seq ≡ another.worker → state.history.fate own.slot own.seq ≡ Draft → ⊥
  no_draft own here seq owner draft = by_kept (kept_by state actor actor.point called (sound.requests worker actor sits).stands at)
    where
      same_seq : own.seq ≡ called.change.seq
      same_seq = sym seq ∙ ap (λ (n : ℕ). (state.cells.gates n).seq) here ∙ number

      by_kept : IsKeptBy state actor called.change → ⊥
      by_kept (inl owned) =
          apart (sym (sound.counts.worker_states other another there).same_worker ∙ sym owner ∙ ap (λ (n : ℕ). state.history.owner n own.seq) here ∙ ap (λ (n : ℕ). state.history.owner slot n) same_seq ∙ owned
          ∙ (sound.counts.worker_states worker actor sits).same_worker)
      by_kept (inr ready) = ready (sym (ap (λ (n : ℕ). state.history.fate n own.seq) here ∙ ap (λ (n : ℕ). state.history.fate slot n) same_seq) ∙ draft)

  -- the other worker decides another change
  no_decision : (target : ℕ) (to : Status) → (pack (AtStatus target) (state.cells.statuses target) == pack (AtStatus target) Open) ≡ true → target ≡ slot → ⊥
  no_decision target to same here =
      not_open called.call (subst (λ (status : Status). starts_from called.call status ≡ true)
      (ap (λ (n : ℕ). state.cells.statuses n) (sym here) ∙ exchanges_are_typed state.cells (AtStatus target) Open sound.memory.fits tt same) starts)

  decided : (target : ℕ) (to : Status) (observation : Observation) → (pack (AtStatus target) (state.cells.statuses target) == pack (AtStatus target) Open) ≡ true
      → (write state.cells (AtStatus target) to).statuses slot ≡ state.cells.statuses slot
  decided target to observation same = by_slot (same_or_other slot target)
    where
      by_slot : (slot ≡ target) ⊎ (slot ≢ target) → (write state.cells (AtStatus target) to).statuses slot ≡ state.cells.statuses slot
      by_slot (inl here) = absurd (no_decision target to same (sym here))
      by_slot (inr elsewhere) = upd_else state.cells.statuses target slot to elsewhere

  by_test : (test : Bool) (one two : State) → (test ≡ true → Stays one) → Stays two → Stays (cond test one two)
  by_test true one two won lost = won refl
  by_test false one two won lost = lost

  at_point : (point : Point) → let me = record another { point = point } in KnowsItsPoint state me → Stays (turned state other me)
  at_point (FillStatus own) knows = by_slot (same_or_other slot own.slot)
    where
      by_slot : (slot ≡ own.slot) ⊎ (slot ≢ own.slot) → Stays (turned state other (record another { point = FillStatus own }))
      by_slot (inl here) = absurd (no_draft own (sym here) knows.live.seq knows.knows.own.same_worker knows.knows.draft)
      by_slot (inr elsewhere) = upd_else state.cells.statuses own.slot slot Draft elsewhere
  at_point (DecideYes task) knows =
      by_test (pack (AtStatus task.target.slot) (state.cells.statuses task.target.slot) == pack (AtStatus task.target.slot) Open) _ _
      (λ same. decided task.target.slot YesDirty Won same) refl
  at_point (DecideNo task entry value) knows =
      by_test (pack (AtStatus task.target.slot) (state.cells.statuses task.target.slot) == pack (AtStatus task.target.slot) Open) _ _
      (λ same. decided task.target.slot (No entry value) Won same) refl
  at_point (Read look) knows =
      after_step Stays state.cells slot (λ cells observation. moved state other (record another { point = Read look }) (made_of state other (record another { point = Read look }) cells observation))
      (λ cells observation same. same) (read_asks_at look.tenant look.address look.point) (reads_leave look.tenant look.address look.point)
  at_point point knows =
      after_step Stays state.cells slot (λ cells observation. moved state other (record another { point = point }) (made_of state other (record another { point = point }) cells observation))
      (λ cells observation same. same) (asks_at (record another { point = point }) point) tt

  -- a step of another worker that is no call on a file leaves the status
  step_stays : turn config state other (Some another) ≡ Some next → Stays next
  step_stays is = by_may (not (is_some (replied another)) && may_make config (asks another)) is
    where
      by_may : (test : Bool) → (if test then Some (turned state other another) else None) ≡ Some next → Stays next
      by_may true came = subst Stays (some_same (turned state other another) next came) (at_point another.point (sound.requests other another there).stands)
      by_may false came = absurd (none_some next came)

  -- a call of another worker on another tenant's file leaves the status
  module _ (its : Called) (elsewhere : slot ≢ its.change.slot) where
    good_stays : (call : Call) (status : Status) (later : ActorState) → Stays (made_all state other (status_moves call its.change status ++ set_intent later ∷ []))
    good_stays PrepareCall status later = upd_else state.cells.statuses its.change.slot slot _ elsewhere
    good_stays SealCall status later = upd_else state.cells.statuses its.change.slot slot _ elsewhere
    good_stays SettleCall status later = upd_else state.cells.statuses its.change.slot slot _ elsewhere
    good_stays CancelCall (No entry value) later = upd_else state.cells.statuses its.change.slot slot _ elsewhere
    good_stays CancelCall status later = refl

    bad_stays : (call : Call) (later : ActorState) → Stays (made_all state other (SetDoor another.tenant (faulted state another.tenant) ∷ broken_moves call its.change ++ set_intent later ∷ []))
    bad_stays SealCall later = refl
    bad_stays call later = refl

    moves_stay : (status : Status) (starting had_failed : Bool) (outcome : Outcome) → Stays (made_all state other (moves_called state other another its status starting had_failed outcome))
    moves_stay status false had_failed outcome = refl
    moves_stay status true true outcome = refl
    moves_stay status true false Good = good_stays its.call status (next_of state other another (Filed true))
    moves_stay status true false (Fail count) = bad_stays its.call (next_of state other another (Filed false))

  other_slot : (its : Called) → called_at another.point ≡ Some its → another.tenant ≢ actor.tenant → slot ≢ its.change.slot
  other_slot its its_at neighbour here =
      let one = of_caller config state worker actor called sound sits at in
      let two = of_caller config state other another its sound there its_at in
      let same_seq : its.change.seq ≡ called.change.seq = sym two.pinned.1 ∙ ap (λ (n : ℕ). (state.cells.gates n).seq) (sym here) ∙ number in
      neighbour (sym two.same_tenant ∙ ap (λ (n : ℕ). state.history.tenant n its.change.seq) (sym here) ∙ ap (λ (n : ℕ). state.history.tenant slot n) same_seq ∙ one.same_tenant)

  call_stays : (outcome : Outcome) (found : Option Called) → called_at another.point ≡ found → another.tenant ≢ actor.tenant → call config state other (Some another) outcome ≡ Some next → Stays next
  call_stays outcome None its_at neighbour is = absurd (none_some next (subst (λ (found : Option Called). call_if config state other another found outcome ≡ Some next) its_at is))
  call_stays outcome (Some its) its_at neighbour is =
      ap (λ (cells : Cells). cells.statuses slot) (calls_are_moves config state next other another its outcome its_at is).cells
      ∙ moves_stay its (other_slot its its_at neighbour) (state.cells.statuses its.change.slot) (starts_from its.call (state.cells.statuses its.change.slot))
      (fails_on its.call (state.tenant_states another.tenant).file) outcome

  -- such a step or such a call leaves the status
  beside_stays : (event : WorldEvent) → IsBeside actor.tenant other another event → step config state event ≡ Some next → Stays next
  beside_stays event (inl is_step) is =
      step_stays (ap (λ (found : Option ActorState). turn config state other found) (sym there) ∙ ap (λ (one : WorldEvent). step config state one) (sym is_step) ∙ is)
  beside_stays event (inr is_call) is =
      call_stays is_call.0 (called_at another.point) refl is_call.2
      (ap (λ (found : Option ActorState). call config state other found is_call.0) (sym there) ∙ ap (λ (one : WorldEvent). step config state one) (sym is_call.1) ∙ is)

pub callers_status_stays : CallersStatusStays
callers_status_stays config openings events state next worker other actor another called event played sits at starts apart there beside is =
    beside_stays config state next (runs_are_sound config openings events state played).0 worker other actor another called sits at starts apart there event beside is
