-- The steps that change no gate and no door, and leave no pin behind, keep the invariant of counts (`CountsStand`). Most
-- steps are such. Used by: FileCallsKeepCounts, GateSteps, ReadSteps, among others.
use Rattle.std.specs.Prelude.{ℕ, ◌≡◌, ◌<◌, ◌==◌, Bool, true, false, List, Some}
use Rattle.std.proofs.Common.{refl, sym, ap, subst}
use Rattle.mw_words.specs.declared.jobs.Entry.{Entry}
use Rattle.mw_words.specs.declared.places.At.{At}
use Rattle.mw_words.specs.declared.places.At.TheVariants.{Door as AtDoor, Gate as AtGate, Row as AtRow, Data, Status as AtStatus, Count, Addr, Expected, New}
use Rattle.mw_words.specs.declared.replies.Reply.TheVariants.{Busy as SaysBusy, Fault as SaysFault}
use Rattle.mw_look.specs.declared.observations.Observation.{Observation}
use Rattle.mw_look.specs.declared.observations.Observation.TheVariants.{Won}
use Rattle.mw_look.specs.declared.points.After.{After as AfterRead}
use Rattle.mw_look.specs.declared.points.After.TheVariants.{Again, Answer}
use Rattle.mw_look.specs.declared.points.Point.{Point as ReadPoint}
use Rattle.mw_look.specs.declared.points.Point.TheVariants.{ReadDoor as DoorOfRead, ReadWord as WordOfRead, ReadStatus as StatusOfRead, RecheckWord as RecheckOfRead, Pin as PinOfRead, Unpin as UnpinOfRead, FreeSlot as FreeOfRead, LowerDoor as LowerOfRead, Replied as RepliedOfRead}
use Rattle.mw_look.specs.declared.points.Trail.{Trail}
use Rattle.mw_look.specs.declared.points.Trail.TheVariants.{Held as ByHeld, Planted as ByPlanted}
use Rattle.mw_look.specs.declared.steps.Kind.{Kind}
use Rattle.mw_look.specs.Places.{Val, pack}
use Rattle.mw_look.specs.Program.{asks_at as look_asks}
use Rattle.mw_look.specs.Observations.{seen}
use Rattle.mw_look.proofs.RangeLaws.{either_way}
use Rattle.mw_look.specs.Steps.{Step, Load, Change, File}
use Rattle.mw_actor.specs.declared.points.Slot.{Slot}
use Rattle.mw_actor.specs.declared.points.Sweep.{Sweep}
use Rattle.mw_actor.specs.declared.points.Sweep.TheVariants.{Yes as SweepYes}
use Rattle.mw_actor.specs.declared.points.Point.{Point}
use Rattle.mw_actor.specs.declared.points.Point.TheVariants.{Read, ReadDoor, Admit, Claim, Inspect, DecideYes, DecideNo, PinOther, Resolve, Release, Clean, Unpin, FreeSlot, LowerDoor, GiveUp, Replied}
use Rattle.mw_actor.specs.ActorState.{ActorState, entry_of}
use Rattle.mw_actor.specs.Asks.{asks, asks_at}
use Rattle.mw_actor.specs.Help.{others_read}
use Rattle.mw_actor.specs.Program.{goes, tells}
use Rattle.mw_world.specs.declared.config.Config.{Config}
use Rattle.mw_world.specs.Definition.Cells.{Cells, read, write}
use Rattle.mw_look.specs.declared.steps.Shape.{Shape}
use Rattle.mw_look.specs.declared.steps.Shape.TheVariants.{Exchange, Store, Fetch}
use Rattle.mw_look.specs.Shapes.{shape_of}
use Rattle.mw_world.specs.Definition.Changes.{fetched, changed, done}
use Rattle.mw_world.specs.Definition.Counts.{pins_held, frees_at, waits_at}
use Rattle.mw_world.specs.Definition.History.{History}
use Rattle.mw_world.specs.Claim.Invariant.{IsOfWorker}
use Rattle.mw_world.specs.Definition.StepLabels.{label_of, door_label, inspect_label, resolve_label, release_label, read_label, read_door_label, read_word_label, read_status_label, answer_label, recheck_label, read_point, won_label, exchange_label}
use Rattle.mw_world.specs.Definition.LabelEffects.{with_label, with_labels}
use Rattle.mw_world.specs.Definition.State.{State, WorkerState}
use Rattle.mw_world.specs.Definition.Turns.{Made, tenant_state_after, made_of, moved, turned, next_attempt, goes_on as goes_on_as}
use Rattle.mw_law_runs.specs.Counts.Ready.{IsReady}
use Rattle.mw_law_runs.specs.Counts.CountInvariant.{CountsStand}
use Rattle.mw_law_runs.proofs.Counts.Effects.{quiet as moves_nothing}
use Rattle.mw_law_runs.proofs.Counts.Points.{PointHolds, IsQuiet, IsQuietRead, quiet_goes}
use Rattle.mw_law_runs.proofs.Counts.Shifts.{Shifts, Counts, of_point, of_request, same_share, shifted}

-- the step changes no gate and no door
abbrev IsAsidePlace : At → Type 0
IsAsidePlace (AtDoor tenant) = ⊥
IsAsidePlace (AtGate slot) = ⊥
IsAsidePlace at = Unit {0}

abbrev pub IsAside : Step → Type 0
IsAside (Change kind at from to) = IsAsidePlace at
IsAside step = Unit {0}

gates_aside : (cells : Cells) (at : At) (x : Val at) → IsAsidePlace at → (write cells at x).gates ≡ cells.gates
gates_aside cells (AtDoor tenant) x aside = absurd aside
gates_aside cells (AtGate slot) x aside = absurd aside
gates_aside cells (AtRow worker) x aside = refl
gates_aside cells (Data tenant address) x aside = refl
gates_aside cells (AtStatus slot) x aside = refl
gates_aside cells (Count slot) x aside = refl
gates_aside cells (Addr slot entry) x aside = refl
gates_aside cells (Expected slot entry) x aside = refl
gates_aside cells (New slot entry) x aside = refl

doors_aside : (cells : Cells) (at : At) (x : Val at) → IsAsidePlace at → (write cells at x).doors ≡ cells.doors
doors_aside cells (AtDoor tenant) x aside = absurd aside
doors_aside cells (AtGate slot) x aside = absurd aside
doors_aside cells (AtRow worker) x aside = refl
doors_aside cells (Data tenant address) x aside = refl
doors_aside cells (AtStatus slot) x aside = refl
doors_aside cells (Count slot) x aside = refl
doors_aside cells (Addr slot entry) x aside = refl
doors_aside cells (Expected slot entry) x aside = refl
doors_aside cells (New slot entry) x aside = refl

changed_aside : (P : State → Type 0) (shape : Shape) (kind : Kind) (at : At) (from to : Val at) (cells : Cells) (then : Cells → Observation → State) → IsAsidePlace at
    → ((after : Cells) (observation : Observation) → after.gates ≡ cells.gates → after.doors ≡ cells.doors → P (then after observation)) → P (changed shape kind at from to cells then)
changed_aside P Exchange kind at from to cells then aside all =
    either_way P (pack at (read cells at) == pack at from) (then (write cells at to) Won) _
    (λ won. all (write cells at to) Won (gates_aside cells at to aside) (doors_aside cells at to aside)) (λ lost. all cells _ refl refl)
changed_aside P Store kind at from to cells then aside all = all (write cells at to) Won (gates_aside cells at to aside) (doors_aside cells at to aside)
changed_aside P Fetch kind at from to cells then aside all =
    all (write cells at (fetched kind at (read cells at))) (seen at (read cells at)) (gates_aside cells at (fetched kind at (read cells at)) aside) (doors_aside cells at (fetched kind at (read cells at)) aside)

done_aside : (P : State → Type 0) (step : Step) (cells : Cells) (then : Cells → Observation → State) → IsAside step
    → ((after : Cells) (observation : Observation) → after.gates ≡ cells.gates → after.doors ≡ cells.doors → P (then after observation)) → P (done step cells then)
done_aside P (Load at) cells then aside all = all cells (seen at (read cells at)) refl refl
done_aside P (Change kind at from to) cells then aside all = changed_aside P (shape_of kind) kind at from to cells then aside all
done_aside P (File call slot) cells then aside all = all cells Won refl refl

-- the steps of quiet points
aside_of_read : (tenant address : ℕ) (point : ReadPoint) → IsQuietRead point → IsAside (look_asks tenant address point)
aside_of_read tenant address (PinOfRead trail from to) quiet = absurd quiet
aside_of_read tenant address (UnpinOfRead slot seq next) quiet = absurd quiet
aside_of_read tenant address (FreeOfRead slot seq next) quiet = absurd quiet
aside_of_read tenant address (LowerOfRead next) quiet = absurd quiet
aside_of_read tenant address point quiet = tt

aside_of : (actor : ActorState) (point : Point) → IsQuiet point → IsAside (asks_at actor point)
aside_of actor (Read look) quiet = aside_of_read look.tenant look.address look.point quiet
aside_of actor (Admit from to) quiet = absurd quiet
aside_of actor (Claim slot saw_worn from to) quiet = absurd quiet
aside_of actor (PinOther task other from to) quiet = absurd quiet
aside_of actor (Unpin slot onward) quiet = absurd quiet
aside_of actor (FreeSlot slot onward) quiet = absurd quiet
aside_of actor (LowerDoor onward) quiet = absurd quiet
aside_of actor point quiet = tt

-- This addition to the history claims no slot and leaves no pin behind.
abbrev pub IsSilent : (History → History) → Type 0
IsSilent adds = (past : History) → ((adds past).stays ≡ past.stays) × ((adds past).tenant ≡ past.tenant)

module _ (worker : ℕ) (by : ActorState) (request : ℕ) where
  door_quiet : (after : Point) → IsSilent (with_label (door_label after) worker by request)
  door_quiet (Replied SaysBusy) = λ past. (refl, refl)
  door_quiet (Replied SaysFault) = λ past. (refl, refl)
  door_quiet after = λ past. (refl, refl)

  inspect_quiet : (after : Point) → IsSilent (with_label (inspect_label after) worker by request)
  inspect_quiet (DecideNo task entry value) = λ past. (refl, refl)
  inspect_quiet after = λ past. (refl, refl)

  resolve_quiet : (was_open : Bool) (target : Slot) (address : ℕ) → IsSilent (with_label (resolve_label was_open target address) worker by request)
  resolve_quiet true target address = λ past. (refl, refl)
  resolve_quiet false target address = λ past. (refl, refl)

  release_quiet : (sweep : Sweep) (target : Slot) (address : ℕ) → IsSilent (with_label (release_label sweep target address) worker by request)
  release_quiet SweepYes target address = λ past. (refl, refl)
  release_quiet sweep target address = λ past. (refl, refl)

  read_door_quiet : (after : ReadPoint) → IsSilent (with_label (read_door_label after) worker by request)
  read_door_quiet (RepliedOfRead SaysFault) = λ past. (refl, refl)
  read_door_quiet after = λ past. (refl, refl)

  read_word_quiet : (after : ReadPoint) → IsSilent (with_label (read_word_label after) worker by request)
  read_word_quiet (RepliedOfRead reply) = λ past. (refl, refl)
  read_word_quiet after = λ past. (refl, refl)

  read_status_quiet : (trail : Trail) → IsSilent (with_label (read_status_label trail) worker by request)
  read_status_quiet (ByHeld slot seq) = λ past. (refl, refl)
  read_status_quiet (ByPlanted worker attempt row) = λ past. (refl, refl)

  answer_quiet : (trail : Trail) (after : AfterRead) → IsSilent (with_label (answer_label trail after) worker by request)
  answer_quiet trail Again = λ past. (refl, refl)
  answer_quiet (ByHeld slot seq) (Answer value) = λ past. (refl, refl)
  answer_quiet (ByPlanted worker attempt row) (Answer value) = λ past. (refl, refl)

  recheck_quiet : (trail : Trail) (after : ReadPoint) → IsSilent (with_label (recheck_label trail after) worker by request)
  recheck_quiet trail (UnpinOfRead slot seq after) = answer_quiet trail after
  recheck_quiet trail after = λ past. (refl, refl)

  -- no step of a read claims a slot or leaves a pin behind
  pub read_quiet : (point after : ReadPoint) → IsSilent (with_label (read_label point after) worker by request)
  read_quiet DoorOfRead after = read_door_quiet after
  read_quiet WordOfRead after = read_word_quiet after
  read_quiet (StatusOfRead trail) after = read_status_quiet trail
  read_quiet (RecheckOfRead trail status expected new) after = recheck_quiet trail after
  read_quiet (FreeOfRead slot seq next) after = λ past. (refl, refl)
  read_quiet (LowerOfRead next) after = λ past. (refl, refl)
  read_quiet point after = λ past. (refl, refl)

  won_quiet : (actor : ActorState) (point : Point) → IsQuiet point → IsSilent (with_label (won_label actor point) worker by request)
  won_quiet actor (Admit from to) quiet = λ past. (refl, refl)
  won_quiet actor (Claim slot saw_worn from to) quiet = absurd quiet
  won_quiet actor (DecideYes task) quiet = λ past. (refl, refl)
  won_quiet actor (DecideNo task entry value) quiet = λ past. (refl, refl)
  won_quiet actor (Resolve task entry attempt was_open) quiet = resolve_quiet was_open task.target (entry_of actor task entry).addr
  won_quiet actor (Release task sweep entry) quiet = release_quiet sweep task.target (entry_of actor task entry).addr
  won_quiet actor (Clean task entry value) quiet = λ past. (refl, refl)
  won_quiet actor point quiet = λ past. (refl, refl)

  exchange_quiet : (actor : ActorState) (point : Point) (observation : Observation) → IsQuiet point → IsSilent (with_label (exchange_label actor point observation) worker by request)
  exchange_quiet actor point Won quiet = won_quiet actor point quiet
  exchange_quiet actor point observation quiet = λ past. (refl, refl)

  note_quiet : (actor : ActorState) (point : Point) (observation : Observation) (after : Point) → IsQuiet point → IsSilent (with_label (label_of actor point observation after) worker by request)
  note_quiet actor (Read look) observation after quiet = read_quiet look.point (read_point after)
  note_quiet actor ReadDoor observation after quiet = door_quiet after
  note_quiet actor (Inspect task entry) observation after quiet = inspect_quiet after
  note_quiet actor (FreeSlot slot next) observation after quiet = absurd quiet
  note_quiet actor (LowerDoor next) observation after quiet = absurd quiet
  note_quiet actor (GiveUp own undecided) observation after quiet = absurd quiet
  note_quiet actor point observation after quiet = exchange_quiet actor point observation quiet

-- a request that goes on to a point is ready there, if it was ready for it
ready_next : (actor : ActorState) (others : List Entry) (point : Point) → IsReady actor point → IsReady (record actor { others = others; point = point }) point
ready_next actor others (Read look) ready = ready
ready_next actor others point ready = ready

holds_next : (actor : ActorState) (others : List Entry) (pins frees : ℕ → ℕ) (waits : ℕ) (point : Point) → PointHolds actor pins frees waits point
    → PointHolds (record actor { others = others; point = point }) pins frees waits point
holds_next actor others pins frees waits point on = record { pins_are = on.pins_are; frees_are = on.frees_are; waits_are = on.waits_are; ready = ready_next actor others point on.ready }

same_some : (one other : ActorState) → Some one ≡ Some other → one ≡ other
same_some one other is = cc

-- a request that goes on belongs to its worker
still_its : (config : Config) (worker : ℕ) (actor : ActorState) (observation : Observation) (number : ℕ) → IsOfWorker config worker actor → IsOfWorker config worker (tells actor observation number)
still_its config worker actor observation number its = record { there = its.there; same_worker = its.same_worker; tenant = its.tenant; pool = its.pool; job = its.job }

-- The invariant of counts holds after the worker's request goes on, if both sides of each count change by the same.
pub goes_on : (config : Config) (state : State) (worker : ℕ) (actor : ActorState) (made : Made) (held frees : ℕ → ℕ) (waits : ℕ) → CountsStand config state → worker < config.workers
    → (state.worker_states worker).actor ≡ Some actor
    → PointHolds actor held frees waits (goes actor (next_attempt actor.point (state.worker_states worker).attempt) actor.point made.observation)
    → Shifts config state (moved state worker actor made) actor.tenant (λ slot. pins_held slot actor.point) (λ slot. frees_at slot actor.point) held frees (waits_at actor.point) waits
    → CountsStand config (moved state worker actor made)
goes_on config state worker actor made held frees waits stand low is on shift =
    let number : ℕ = next_attempt actor.point (state.worker_states worker).attempt in
    let next : ActorState = tells actor made.observation number in
    let held_next : PointHolds next held frees waits next.point = holds_next actor (others_read actor.others actor.point made.observation) held frees waits (goes actor number actor.point made.observation) on in
    let worker_state : WorkerState = goes_on_as (with_labels made.label state.history (state.tenant_states actor.tenant).lines (state.worker_states worker)) next number in
    shifted config state (moved state worker actor made) worker actor.tenant worker_state (λ slot. pins_held slot actor.point) (λ slot. frees_at slot actor.point) held frees (waits_at actor.point) waits
    stand low refl
    (subst (λ a. Counts actor.tenant (λ slot. pins_held slot actor.point) (λ slot. frees_at slot actor.point) (waits_at actor.point) a) (sym is) (of_request actor))
    (of_point next held frees waits held_next)
    (λ other same. subst (λ a. IsOfWorker config worker a) (same_some next other same) (still_its config worker actor made.observation number (stand.worker_states worker actor is)))
    (λ other same. subst (λ a. IsReady a a.point) (same_some next other same) held_next.ready)
    (λ other same. subst (λ (a : ActorState). a.quota ≡ (state.tenant_states a.tenant).quota) (same_some next other same) (stand.quotas worker actor is))
    (same_share state.tenant_states actor.tenant (tenant_state_after (state.tenant_states actor.tenant) (state.worker_states worker) made state) (refl, refl))
    shift

-- A quiet step keeps the counts, whatever else it does.
pub quiet_move : (config : Config) (state : State) (worker : ℕ) (actor : ActorState) (made : Made) → CountsStand config state → worker < config.workers
    → (state.worker_states worker).actor ≡ Some actor → IsQuiet actor.point → IsSilent (with_label made.label worker actor (state.worker_states worker).request)
    → ((slot : ℕ) → made.cells.gates slot ≡ state.cells.gates slot) → ((tenant : ℕ) → (made.cells.doors tenant).used ≡ (state.cells.doors tenant).used)
    → CountsStand config (moved state worker actor made)
quiet_move config state worker actor made stand low is is_quiet label gates used =
    goes_on config state worker actor made (λ slot. pins_held slot actor.point) (λ slot. frees_at slot actor.point) (waits_at actor.point) stand low is
    (quiet_goes actor (next_attempt actor.point (state.worker_states worker).attempt) actor.point made.observation is_quiet (stand.ready worker actor is))
    (moves_nothing config state (moved state worker actor made) stand actor.tenant (λ slot. pins_held slot actor.point) (λ slot. frees_at slot actor.point) (waits_at actor.point) gates used
    (λ slot seq. ap (λ f. f slot seq) (label state.history).0)
    (λ slot seq. ap (λ f. f slot seq) (label state.history).1))

-- the world after a step of a worker's request, by the shared words after it and what the request learns
abbrev pub after_step : State → ℕ → ActorState → Cells → Observation → State
after_step state worker actor cells observation = moved state worker actor (made_of state worker actor cells observation)

-- A step at a quiet point keeps the counts.
pub quiet_turn : (config : Config) (state : State) (worker : ℕ) (actor : ActorState) → CountsStand config state → worker < config.workers
    → (state.worker_states worker).actor ≡ Some actor → IsQuiet actor.point → CountsStand config (turned state worker actor)
quiet_turn config state worker actor stand low is is_quiet =
    done_aside (CountsStand config) (asks actor) state.cells (after_step state worker actor) (aside_of actor actor.point is_quiet)
    (λ cells observation gates doors. quiet_move config state worker actor (made_of state worker actor cells observation) stand low is is_quiet
    (note_quiet worker actor (state.worker_states worker).request actor actor.point observation (goes actor (next_attempt actor.point (state.worker_states worker).attempt) actor.point observation) is_quiet)
    (λ slot. ap (λ f. f slot) gates) (λ tenant. ap (λ f. (f tenant).used) doors))
