-- After every run, each taken slot has a number below the worn one (the last number), because no claim takes that one.
-- Used by: ReadRetryLaws.
use Rattle.std.specs.Prelude.{ℕ, ◌≡◌, ◌<◌, ◌==◌, ◌&&◌, not, Bool, true, false, cond, is_some, if◌then◌else◌, Option, Some, None}
use Rattle.std.proofs.Common.{refl, sym, subst, ◌∙◌, arith}
use Rattle.mw_words.specs.declared.gates.Gate.{Gate}
use Rattle.mw_words.specs.declared.limits.TheConstants.{WORN_NUMBER}
use Rattle.mw_words.specs.declared.places.At.{At}
use Rattle.mw_words.specs.declared.places.At.TheVariants.{Door as AtDoor, Gate as AtGate, Row as AtRow, Data, Status as AtStatus, Count, Addr, Expected, New}
use Rattle.mw_pool.specs.Moves.{Claims, Pins}
use Rattle.mw_look.specs.declared.observations.Observation.{Observation}
use Rattle.mw_look.specs.declared.observations.Observation.TheVariants.{Won, Lost}
use Rattle.mw_look.specs.declared.points.Point.{Point as ReadPoint}
use Rattle.mw_look.specs.declared.points.Point.TheVariants.{Pin as PinOfRead, Unpin as UnpinOfRead, FreeSlot as FreeOfRead, LowerDoor as LowerOfRead}
use Rattle.mw_look.specs.declared.steps.Kind.{Kind}
use Rattle.mw_look.specs.declared.steps.Kind.TheVariants.{Unpin as UnpinKind, Drop as DropKind, Fault as FaultKind}
use Rattle.mw_look.specs.Places.{Val, pack}
use Rattle.mw_look.specs.Program.{IsPointInRange as IsReadPointInRange, asks_at as read_asks_at}
use Rattle.mw_look.specs.Steps.{Step, Load, Change, File as FileStep}
use Rattle.mw_actor.specs.declared.points.Point.{Point}
use Rattle.mw_actor.specs.declared.points.Point.TheVariants.{Read, Admit, Claim, PinOther, Unpin, FreeSlot, LowerDoor}
use Rattle.mw_actor.specs.ActorState.{ActorState, own_entries}
use Rattle.mw_actor.specs.Asks.{asks, asks_at}
use Rattle.mw_actor.specs.Program.{replied}
use Rattle.mw_world.specs.declared.outcomes.Outcome.{Outcome}
use Rattle.mw_world.specs.Maps.{upd}
use Rattle.mw_world.specs.declared.config.Config.{Config}
use Rattle.mw_world.specs.Definition.Calls.{Called, call, call_if, called_at, calling, calls_made, can_be_made, fails_on, moved_if, place_for, starts_from}
use Rattle.mw_world.specs.Definition.Cells.{Cells, read, write}
use Rattle.mw_look.specs.declared.steps.Shape.{Shape}
use Rattle.mw_look.specs.declared.steps.Shape.TheVariants.{Exchange, Store, Fetch}
use Rattle.mw_look.specs.Shapes.{shape_of}
use Rattle.mw_world.specs.Definition.Changes.{changed, done, fetched}
use Rattle.mw_world.specs.Definition.Extent.{has_slot}
use Rattle.mw_world.specs.Definition.Events.{WorldEvent, Come, Step as StepEvent, File as FileEvent, Hand, Restart}
use Rattle.mw_world.specs.Definition.Restarts.{restarted}
use Rattle.mw_world.specs.Definition.State.{State}
use Rattle.mw_world.specs.Definition.Turns.{may_make, made_of, moved, turn, turned}
use Rattle.mw_world.specs.Definition.World.{step}
use Rattle.mw_law_runs.proofs.Counts.Startable.{may_start}
use Rattle.mw_law_runs.specs.Counts.Ready.{IsReadReady}
use Rattle.mw_law_runs.proofs.Moves.StepsKeepMemory.{comes_leave, hands_leave}
use Rattle.mw_law_runs.specs.Knowledge.Informed.{IsInformed}
use Rattle.mw_law_runs.specs.RunInvariant.{IsSound}
use Rattle.mw_law_runs.proofs.Obligations.Pins.{none_some}
use Rattle.mw_law_runs.proofs.RequestsInWorlds.{have_their_requests}
use Rattle.mw_law_runs.proofs.GuardedEvents.{guarded, if_slot}
use Rattle.mw_law_store.proofs.Files.CallFiles.{ended}

-- a gate that is taken has a lower number than the worn one
abbrev pub IsLow : Gate → Type 0
IsLow gate = gate.taken ≡ true → gate.seq < WORN_NUMBER

abbrev pub AreLow : Cells → Type 0
AreLow cells = (slot : ℕ) → IsLow (cells.gates slot)

false_true : false ≡ true → ⊥
false_true e = cc

-- What is written at a place has such a number, if it is a gate.
abbrev LowAt : (at : At) → Val at → Type 0
LowAt (AtGate slot) gate = IsLow gate
LowAt (AtDoor tenant) door = Unit {0}
LowAt (AtRow worker) row = Unit {0}
LowAt (Data tenant address) word = Unit {0}
LowAt (AtStatus slot) status = Unit {0}
LowAt (Count slot) number = Unit {0}
LowAt (Addr slot entry) number = Unit {0}
LowAt (Expected slot entry) number = Unit {0}
LowAt (New slot entry) number = Unit {0}

set_low : (gates : ℕ → Gate) (slot other : ℕ) (gate : Gate) → IsLow gate → IsLow (gates other) → IsLow (upd gates slot gate other)
set_low gates slot other gate low was = by_test (other == slot)
  where
    by_test : (test : Bool) → IsLow (if test then gate else gates other)
    by_test true = low
    by_test false = was

write_low : (cells : Cells) (at : At) (x : Val at) → LowAt at x → AreLow cells → AreLow (write cells at x)
write_low cells (AtGate slot) gate low all = λ other. set_low cells.gates slot other gate low (all other)
write_low cells (AtDoor tenant) x low all = all
write_low cells (AtRow worker) x low all = all
write_low cells (Data tenant address) x low all = all
write_low cells (AtStatus slot) x low all = all
write_low cells (Count slot) x low all = all
write_low cells (Addr slot entry) x low all = all
write_low cells (Expected slot entry) x low all = all
write_low cells (New slot entry) x low all = all

read_low : (cells : Cells) (at : At) → AreLow cells → LowAt at (read cells at)
read_low cells (AtGate slot) all = all slot
read_low cells (AtDoor tenant) all = tt
read_low cells (AtRow worker) all = tt
read_low cells (Data tenant address) all = tt
read_low cells (AtStatus slot) all = tt
read_low cells (Count slot) all = tt
read_low cells (Addr slot entry) all = tt
read_low cells (Expected slot entry) all = tt
read_low cells (New slot entry) all = tt

-- a fetch leaves a gate's number, and whether it is taken
fetched_low : (kind : Kind) (at : At) (x : Val at) → LowAt at x → LowAt at (fetched kind at x)
fetched_low UnpinKind (AtGate slot) gate low = low
fetched_low DropKind (AtDoor tenant) door low = tt
fetched_low FaultKind (AtDoor tenant) door low = tt
fetched_low kind at x low = low

-- What a step leaves at its place has such a number, if that is a gate.
abbrev LeavesLow : Step → Type 0
LeavesLow (Load at) = Unit {0}
LeavesLow (Change kind at from to) = LowAt at to
LeavesLow (FileStep called slot) = Unit {0}

-- so it is in all worlds that may follow such a step
follows_low : (P : State → Type 0) (gives : Cells → Observation → State) → ((cells : Cells) (observation : Observation) → AreLow cells → P (gives cells observation)) → (asked : Step) (cells : Cells) → LeavesLow asked → AreLow cells
    → P (done asked cells gives)
follows_low P gives all (Load at) cells leaves low = all _ _ low
follows_low P gives all (FileStep called slot) cells leaves low = all _ _ low
follows_low P gives all (Change kind at from to) cells leaves low = by_shape (shape_of kind)
  where
    by_test : (test : Bool) → P (cond test (gives (write cells at to) Won) (gives cells Lost))
    by_test true = all _ _ (write_low cells at to leaves low)
    by_test false = all _ _ low

    by_shape : (shape : Shape) → P (changed shape kind at from to cells gives)
    by_shape Exchange = by_test (pack at (read cells at) == pack at from)
    by_shape Store = all _ _ (write_low cells at to leaves low)
    by_shape Fetch = all _ _ (write_low cells at (fetched kind at (read cells at)) (fetched_low kind at (read cells at) (read_low cells at low)) low)

-- Each step of a request is such a step.

pinned_low : (seq : ℕ) (from to : Gate) → Pins seq from to → seq < WORN_NUMBER → IsLow to
pinned_low seq from to pins low taken = omega (arith, pins.same_number, pins.had_that_number, low)

claimed_low : (from to : Gate) → Claims from to → IsLow to
claimed_low from to claims taken = omega (arith, claims.same_number, claims.was_not_worn)

read_leaves : (tenant address : ℕ) (point : ReadPoint) → IsReadPointInRange point → IsReadReady point → LeavesLow (read_asks_at tenant address point)
read_leaves tenant address (PinOfRead trail from to) in_range pins = pinned_low _ from to pins in_range.0
read_leaves tenant address (UnpinOfRead slot seq after) in_range ready = λ taken. absurd (false_true taken)
read_leaves tenant address (FreeOfRead slot seq after) in_range ready = λ taken. absurd (false_true taken)
read_leaves tenant address (LowerOfRead after) in_range ready = tt
read_leaves tenant address point in_range ready = tt

leaves_low : (config : Config) (state : State) (actor : ActorState) (point : Point) → let me = record actor { point = point } in IsInformed config state me → LeavesLow (asks_at me point)
leaves_low config state actor (Read look) informed = read_leaves look.tenant look.address look.point informed.look_in_range informed.ready.1
leaves_low config state actor (Claim slot saw_worn from to) informed = claimed_low from to informed.ready
leaves_low config state actor (PinOther task other from to) informed = pinned_low other.seq from to informed.ready.1 informed.in_range.point.1
leaves_low config state actor (Unpin slot onward) informed = λ taken. absurd (false_true taken)
leaves_low config state actor (FreeSlot slot onward) informed = λ taken. absurd (false_true taken)
leaves_low config state actor (LowerDoor onward) informed = tt
leaves_low config state actor (Admit from to) informed = tt
leaves_low config state actor point informed = tt

module _ (config : Config) (state next : State) (sound : IsSound config state) (low : AreLow state.cells) where
  turn_low : (worker : ℕ) (found : Option ActorState) → (state.worker_states worker).actor ≡ found → turn config state worker found ≡ Some next → AreLow next.cells
  turn_low worker None sits is = absurd (none_some next is)
  turn_low worker (Some actor) sits is =
      guarded (λ (one : State). AreLow one.cells) (not (is_some (replied actor)) && may_make config (asks actor)) (turned state worker actor) next
      (λ may. follows_low (λ (one : State). AreLow one.cells) (λ cells observation. moved state worker actor (made_of state worker actor cells observation)) (λ cells observation after. after) (asks actor) state.cells
      (leaves_low config state actor actor.point (have_their_requests config state sound worker actor sits).informed) low) is

  -- a call changes no gate
  call_so : (worker : ℕ) (actor : ActorState) (found : Option Called) (outcome : Outcome) → call_if config state worker actor found outcome ≡ Some next → AreLow next.cells
  call_so worker actor None outcome is = absurd (none_some next is)
  call_so worker actor (Some called) outcome is =
      let file = (state.tenant_states actor.tenant).file in
      let places = (state.tenant_states actor.tenant).quota in
      let status = state.cells.statuses called.change.slot in
      let place = place_for called.call file places called.change.slot in
      ended (λ (one : State). AreLow one.cells) state worker actor called.change file called.call status place (starts_from called.call status) (fails_on called.call file)
      (can_be_made called.call file places place (own_entries actor)) (calls_made called.call status file place) outcome next
      (record { skipped = λ not_so. low; faulted = λ so failed. low; well = λ so fine can. low; broke = λ so fine. low })
      (if_slot (has_slot config called.change.slot) (moved_if state worker actor (calling config state actor called outcome)) next is)

  call_low : (worker : ℕ) (found : Option ActorState) (outcome : Outcome) → call config state worker found outcome ≡ Some next → AreLow next.cells
  call_low worker None outcome is = absurd (none_some next is)
  call_low worker (Some actor) outcome is = call_so worker actor (called_at actor.point) outcome is

pub event_low : (config : Config) (state next : State) (event : WorldEvent) → IsSound config state → AreLow state.cells → step config state event ≡ Some next → AreLow next.cells
event_low config state next (Come worker tenant job) sound low is = subst AreLow (sym (comes_leave config state next worker tenant job is).cells) low
event_low config state next (StepEvent worker) sound low is = turn_low config state next sound low worker (state.worker_states worker).actor refl is
event_low config state next (FileEvent worker outcome) sound low is = call_low config state next sound low worker (state.worker_states worker).actor outcome is
event_low config state next (Hand worker) sound low is = subst AreLow (sym (hands_leave state next worker is).cells) low
event_low config state next (Restart founds) sound low is =
    guarded (λ (one : State). AreLow one.cells) (may_start config state founds) (restarted config state founds) next (λ may slot taken. absurd (false_true taken)) is
