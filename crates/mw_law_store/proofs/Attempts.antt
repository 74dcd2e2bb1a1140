-- After every run, no worker's next attempt has a number above the worn one (the last number), also when that was used up.
-- Used by: attempts_are_numbers, mw_rule.
use Rattle.std.specs.Prelude.{ℕ, ◌≡◌, ◌≢◌, ◌≤◌, ◌⊎◌, ◌==◌, ◌&&◌, Bool, true, false, not, cond, is_some, List, Option, Some, None}
use Rattle.std.proofs.Common.{refl, sym, ap, subst, ◌∙◌, inl, inr, arith}
use Rattle.mw_words.specs.declared.jobs.Entry.{Entry}
use Rattle.mw_words.specs.declared.limits.TheConstants.{WORN_NUMBER}
use Rattle.mw_look.specs.declared.observations.Observation.{Observation}
use Rattle.mw_look.specs.declared.observations.Observation.TheVariants.{Won, Lost}
use Rattle.mw_look.specs.Places.{pack}
use Rattle.mw_look.specs.Steps.{Step, Load, Change, File as FileStep}
use Rattle.mw_actor.specs.declared.points.Point.{Point}
use Rattle.mw_actor.specs.declared.points.Point.TheVariants.{Plant}
use Rattle.mw_actor.specs.ActorState.{ActorState}
use Rattle.mw_actor.specs.Asks.{asks}
use Rattle.mw_actor.specs.Program.{replied}
use Rattle.mw_actor.specs.Ranges.{IsPointInRange}
use Rattle.mw_world.specs.declared.outcomes.Outcome.{Outcome}
use Rattle.mw_world.specs.declared.config.Config.{Config}
use Rattle.mw_world.specs.Definition.Calls.{Called, call, call_if, called_at, calling, moved_if}
use Rattle.mw_world.specs.Definition.Cells.{Cells, read, write}
use Rattle.mw_look.specs.declared.steps.Shape.{Shape}
use Rattle.mw_look.specs.declared.steps.Shape.TheVariants.{Exchange, Store, Fetch}
use Rattle.mw_look.specs.Shapes.{shape_of}
use Rattle.mw_world.specs.Definition.Changes.{changed, done}
use Rattle.mw_world.specs.Definition.Extent.{has_slot}
use Rattle.mw_world.specs.Definition.Events.{WorldEvent, Come, Step as StepEvent, File as FileEvent, Hand, Restart}
use Rattle.mw_world.specs.Definition.Restarts.{restarted}
use Rattle.mw_world.specs.Definition.State.{State, WorkerState}
use Rattle.mw_world.specs.Definition.Turns.{Made, turn, turned, may_make, moved, made_of, next_attempt}
use Rattle.mw_world.specs.Definition.World.{step}
use Rattle.mw_law_runs.proofs.Counts.Startable.{may_start}
use Rattle.mw_law_runs.proofs.Moves.StepsKeepMemory.{comes_leave, hands_leave}
use Rattle.mw_law_runs.proofs.Knowledge.Updates.Preservation.{upd_here, upd_else}
use Rattle.mw_law_runs.specs.RunInvariant.{IsSound}
use Rattle.mw_law_runs.proofs.Numbers.{same_or_other}
use Rattle.mw_law_runs.proofs.Obligations.Pins.{none_some, some_same}
use Rattle.mw_law_runs.proofs.RunsAreSound.{runs_are_sound}
use Rattle.mw_law_runs.proofs.GuardedEvents.{guarded, if_slot}
use Rattle.mw_law_store.specs.Worn.{AttemptsAreNumbers}
use Rattle.mw_law_store.proofs.Beginnings.{played_by_events}

next_low : (others : List Entry) (point : Point) (attempt : ℕ) → IsPointInRange others point → attempt ≤ WORN_NUMBER → next_attempt point attempt ≤ WORN_NUMBER
next_low others (Plant task entry number) attempt in_range low = let below = in_range.1 in omega (arith, below)
next_low others point attempt in_range low = low

abbrev AreLow : State → Type 0
AreLow state = (worker : ℕ) → (state.worker_states worker).attempt ≤ WORN_NUMBER

-- what holds of all worlds that may follow a step holds of the one that follows it
follows : (P : State → Type 0) (gives : Cells → Observation → State) → ((cells : Cells) (observation : Observation) → P (gives cells observation)) → (asked : Step) (cells : Cells) → P (done asked cells gives)
follows P gives all (Load at) cells = all _ _
follows P gives all (FileStep called slot) cells = all _ _
follows P gives all (Change kind at from to) cells = by_shape (shape_of kind)
  where
    by_test : (test : Bool) → P (cond test (gives (write cells at to) Won) (gives cells Lost))
    by_test true = all _ _
    by_test false = all _ _

    by_shape : (shape : Shape) → P (changed shape kind at from to cells gives)
    by_shape Exchange = by_test (pack at (read cells at) == pack at from)
    by_shape Store = all _ _
    by_shape Fetch = all _ _

moved_low : (state : State) (worker : ℕ) (actor : ActorState) (made : Made) → next_attempt actor.point (state.worker_states worker).attempt ≤ WORN_NUMBER → AreLow state → AreLow (moved state worker actor made)
moved_low state worker actor made low all other = by_worker (same_or_other other worker)
  where
    by_worker : (other ≡ worker) ⊎ (other ≢ worker) → ((moved state worker actor made).worker_states other).attempt ≤ WORN_NUMBER
    by_worker (inl here) = subst (λ n. n ≤ WORN_NUMBER) (sym (ap (λ n. ((moved state worker actor made).worker_states n).attempt) here ∙ ap (λ (worker_state : WorkerState). worker_state.attempt) (upd_here state.worker_states worker _))) low
    by_worker (inr apart) = subst (λ n. n ≤ WORN_NUMBER) (sym (ap (λ (worker_state : WorkerState). worker_state.attempt) (upd_else state.worker_states worker other _ apart))) (all other)

moved_so : (P : State → Type 0) (state next : State) (worker : ℕ) (actor : ActorState) (made : Option Made) → ((one : Made) → P (moved state worker actor one)) → moved_if state worker actor made ≡ Some next → P next
moved_so P state next worker actor None all is = absurd (none_some next is)
moved_so P state next worker actor (Some made) all is = subst P (some_same (moved state worker actor made) next is) (all made)

-- the number of an attempt that stays is still not above the worn one
pub stays_low : (attempt was : ℕ) → attempt ≡ was → was ≤ WORN_NUMBER → attempt ≤ WORN_NUMBER
stays_low attempt was same low = subst (λ n. n ≤ WORN_NUMBER) (sym same) low

module _ (config : Config) (state next : State) (sound : IsSound config state) (low : AreLow state) where
  low_after : (actor : ActorState) → (state.worker_states actor.worker).actor ≡ Some actor → next_attempt actor.point (state.worker_states actor.worker).attempt ≤ WORN_NUMBER
  low_after actor sits = next_low actor.others actor.point (state.worker_states actor.worker).attempt (sound.requests actor.worker actor sits).in_range.point (low actor.worker)

  pub turn_low : (actor : ActorState) → (state.worker_states actor.worker).actor ≡ Some actor → turn config state actor.worker (Some actor) ≡ Some next → AreLow next
  turn_low actor sits is =
      guarded AreLow (not (is_some (replied actor)) && may_make config (asks actor)) (turned state actor.worker actor) next
      (λ both. follows AreLow (λ cells observation. moved state actor.worker actor (made_of state actor.worker actor cells observation))
      (λ cells observation. moved_low state actor.worker actor (made_of state actor.worker actor cells observation) (low_after actor sits) low) (asks actor) state.cells) is

  turn_by : (worker : ℕ) (found : Option ActorState) → (state.worker_states worker).actor ≡ found → turn config state worker found ≡ Some next → AreLow next
  turn_by worker None sits is = absurd (none_some next is)
  turn_by worker (Some actor) sits is =
      let same = (sound.counts.worker_states worker actor sits).same_worker in
      turn_low actor (subst (λ (n : ℕ). (state.worker_states n).actor ≡ Some actor) (sym same) sits) (subst (λ (n : ℕ). turn config state n (Some actor) ≡ Some next) (sym same) is)

  pub call_low : (actor : ActorState) (outcome : Outcome) (found : Option Called) → (state.worker_states actor.worker).actor ≡ Some actor → called_at actor.point ≡ found
      → call config state actor.worker (Some actor) outcome ≡ Some next → AreLow next
  call_low actor outcome None sits at is = absurd (none_some next (subst (λ (found : Option Called). call_if config state actor.worker actor found outcome ≡ Some next) at is))
  call_low actor outcome (Some called) sits at is =
      moved_so AreLow state next actor.worker actor (calling config state actor called outcome) (λ made. moved_low state actor.worker actor made (low_after actor sits) low)
      (if_slot (has_slot config called.change.slot) (moved_if state actor.worker actor (calling config state actor called outcome)) next
      (subst (λ (found : Option Called). call_if config state actor.worker actor found outcome ≡ Some next) at is))

  call_by : (worker : ℕ) (found : Option ActorState) (outcome : Outcome) → (state.worker_states worker).actor ≡ found → call config state worker found outcome ≡ Some next → AreLow next
  call_by worker None outcome sits is = absurd (none_some next is)
  call_by worker (Some actor) outcome sits is =
      let same = (sound.counts.worker_states worker actor sits).same_worker in
      call_low actor outcome (called_at actor.point) (subst (λ (n : ℕ). (state.worker_states n).actor ≡ Some actor) (sym same) sits) refl
      (subst (λ (n : ℕ). call config state n (Some actor) outcome ≡ Some next) (sym same) is)

  event_low : (event : WorldEvent) → step config state event ≡ Some next → AreLow next
  event_low (Come worker tenant job) is = λ other. stays_low _ _ ((comes_leave config state next worker tenant job is).attempts other) (low other)
  event_low (StepEvent worker) is = turn_by worker (state.worker_states worker).actor refl is
  event_low (FileEvent worker outcome) is = call_by worker (state.worker_states worker).actor outcome refl is
  event_low (Hand worker) is = λ other. stays_low _ _ ((hands_leave state next worker is).attempts other) (low other)
  event_low (Restart founds) is = guarded AreLow (may_start config state founds) (restarted config state founds) next (λ may worker. omega arith) is

pub attempts_are_numbers : AttemptsAreNumbers
attempts_are_numbers config openings events state =
    played_by_events config openings (λ before now. AreLow now) (λ worker. omega arith)
    (λ before event now next played low is. event_low config now next (runs_are_sound config openings before now played).0 low event is) events state
