-- A run with fewer events than there are numbers uses up no number. Each event raises a slot's or an attempt's number by at
-- most one.
-- Used by: short_runs_have_numbers.
use Rattle.std.specs.Prelude.{ℕ, ◌≡◌, ◌<◌, ◌≤◌, ◌⊎◌, ◌+◌, ◌==◌, ◌&&◌, ◌++◌, Bool, true, false, not, cond, is_some, List, [], ◌∷◌, length, if◌then◌else◌, Option, Some, None}
use Rattle.std.specs.Option.{option_and_then}
use Rattle.std.proofs.Common.{refl, sym, ap, subst, ◌∙◌, inl, inr, arith}
use Rattle.std.proofs.lemmas.Bool.Decides.{nat_tests}
use Rattle.mw_words.specs.declared.limits.TheConstants.{WORN_NUMBER}
use Rattle.mw_words.specs.declared.places.At.{At}
use Rattle.mw_look.specs.declared.observations.Observation.{Observation}
use Rattle.mw_look.specs.declared.observations.Observation.TheVariants.{Won, Lost}
use Rattle.mw_look.specs.declared.points.Point.{Point as ReadPoint}
use Rattle.mw_look.specs.declared.points.Point.TheVariants.{FreeSlot as FreeOfRead}
use Rattle.mw_look.specs.declared.steps.Kind.{Kind}
use Rattle.mw_look.specs.Places.{Val, pack}
use Rattle.mw_look.specs.Program.{Reading, freed}
use Rattle.mw_look.specs.Steps.{Step, Load, Change, File as FileStep}
use Rattle.mw_words.specs.declared.gates.Gate.{Gate}
use Rattle.mw_actor.specs.declared.points.Point.{Point}
use Rattle.mw_actor.specs.declared.points.Point.TheVariants.{Read, FreeSlot, Plant}
use Rattle.mw_actor.specs.ActorState.{ActorState}
use Rattle.mw_actor.specs.Asks.{asks}
use Rattle.mw_actor.specs.Program.{replied}
use Rattle.mw_world.specs.declared.outcomes.Outcome.{Outcome}
use Rattle.mw_world.specs.Maps.{upd}
use Rattle.mw_world.specs.declared.config.Config.{Config}
use Rattle.mw_world.specs.Claim.Headline.{ShortRunsHaveNumbers}
use Rattle.mw_world.specs.Definition.Calls.{Called, call, call_if, called_at, calling, moved_if}
use Rattle.mw_world.specs.Definition.Cells.{Cells, read, write}
use Rattle.mw_look.specs.declared.steps.Shape.{Shape}
use Rattle.mw_look.specs.declared.steps.Shape.TheVariants.{Exchange, Store, Fetch}
use Rattle.mw_look.specs.Shapes.{shape_of}
use Rattle.mw_world.specs.Definition.Changes.{changed, done}
use Rattle.mw_world.specs.Definition.Counts.{frees_at}
use Rattle.mw_world.specs.Definition.Extent.{has_slot}
use Rattle.mw_world.specs.Definition.Events.{WorldEvent, Come, Step as StepEvent, File as FileEvent, Hand, Restart}
use Rattle.mw_world.specs.Definition.Restarts.{restarted}
use Rattle.mw_world.specs.Definition.State.{State, WorkerState, IsConfig, tenants_of, world_at}
use Rattle.mw_world.specs.Definition.Turns.{Made, turn, turned, may_make, moved, made_of, next_attempt}
use Rattle.mw_world.specs.Definition.World.{run, step}
use Rattle.mw_law_runs.specs.Moves.StepMoves.{SameMemory}
use Rattle.mw_law_runs.proofs.Moves.StepsKeepMemory.{comes_leave, hands_leave}
use Rattle.mw_law_runs.proofs.Counts.Startable.{may_start}
use Rattle.mw_law_runs.specs.Knowledge.NextState.{KnowsItsPoint}
use Rattle.mw_law_runs.specs.Files.{FilesFit}
use Rattle.mw_law_runs.specs.RunInvariant.{IsSound}
use Rattle.mw_law_runs.proofs.ArrivalsAndStarts.{starts_are_sound}
use Rattle.mw_law_runs.proofs.FileCalls.{gates_stay}
use Rattle.mw_law_runs.proofs.Numbers.{nothing_or_some}
use Rattle.mw_law_runs.proofs.RunsAreSound.{events_keep_sound, starts_fit}
use Rattle.mw_law_runs.proofs.GuardedEvents.{guarded, if_slot}
use Rattle.mw_law_runs.proofs.StepsKeepInvariant.{stays_next}

-- A slot's number, and that of a worker's next attempt, rise by at most one.
record Rises (state next : State) : Type 0 where
  slots : (slot : ℕ) → (next.cells.gates slot).seq ≤ (state.cells.gates slot).seq + 1
  attempts : (worker : ℕ) → (next.worker_states worker).attempt ≤ (state.worker_states worker).attempt + 1

-- if memory is the same, numbers are
same_rises : (state next : State) → SameMemory next state → Rises state next
same_rises state next same = record {
  slots = λ slot. omega (arith, ap (λ (cells : Cells). (cells.gates slot).seq) same.cells);
  attempts = λ worker. omega (arith, same.attempts worker);
}

-- what holds of everything after a step holds of this
chosen : {A : Type 0} (P : A → Type 0) (test : Bool) (one other : A) → P one → P other → P (cond test one other)
chosen P true one other is isnt = is
chosen P false one other is isnt = isnt

changed_all : {A : Type 0} (P : A → Type 0) (shape : Shape) (kind : Kind) (at : At) (from to : Val at) (cells : Cells) (next : Cells → Observation → A) → ((after : Cells) (observation : Observation) → P (next after observation))
    → P (changed shape kind at from to cells next)
changed_all P Exchange kind at from to cells next all =
    chosen P (pack at (read cells at) == pack at from) (next (write cells at to) Won) (next cells Lost) (all (write cells at to) Won) (all cells Lost)
changed_all P Store kind at from to cells next all = all _ _
changed_all P Fetch kind at from to cells next all = all _ _

done_all : {A : Type 0} (P : A → Type 0) (asked : Step) (cells : Cells) (next : Cells → Observation → A) → ((after : Cells) (observation : Observation) → P (next after observation)) → P (done asked cells next)
done_all P (Load at) cells next all = all _ _
done_all P (Change kind at from to) cells next all = changed_all P (shape_of kind) kind at from to cells next all
done_all P (FileStep call slot) cells next all = all _ _

-- the number of a worker's next attempt, after the worker goes on with one
one_worker_state : (worker_states : ℕ → WorkerState) (worker other : ℕ) (worker_state : WorkerState) → worker_state.attempt ≤ (worker_states worker).attempt + 1 → (upd worker_states worker worker_state other).attempt ≤ (worker_states other).attempt + 1
one_worker_state worker_states worker other worker_state low = by_test (other == worker) refl
  where
    by_test : (test : Bool) → (other == worker) ≡ test → (if test then worker_state else worker_states other).attempt ≤ (worker_states other).attempt + 1
    by_test true is = let same : other ≡ worker = grind (arith, nat_tests, is) in subst (λ (n : ℕ). worker_state.attempt ≤ (worker_states n).attempt + 1) (sym same) low
    by_test false is = omega arith

module _ (state : State) (worker : ℕ) where
  -- the number after this one, if an attempt was made, which was the next one
  next_low : (actor : ActorState) (point : Point) → actor.worker ≡ worker → KnowsItsPoint state (record actor { point = point }) → next_attempt point (state.worker_states worker).attempt ≤ (state.worker_states worker).attempt + 1
  next_low actor (Plant task entry number) same knows =
      let is_next : (state.worker_states actor.worker).attempt ≡ number = knows.knows.1 in
      let here : (state.worker_states worker).attempt ≡ number = ap (λ (n : ℕ). (state.worker_states n).attempt) (sym same) ∙ is_next in
      omega (arith, here)
  next_low actor point same knows = omega arith

  moved_low : (actor : ActorState) (made : Made) (other : ℕ) → next_attempt actor.point (state.worker_states worker).attempt ≤ (state.worker_states worker).attempt + 1
      → ((moved state worker actor made).worker_states other).attempt ≤ (state.worker_states other).attempt + 1
  moved_low actor made other low = one_worker_state state.worker_states worker other _ low

  turned_low : (actor : ActorState) (other : ℕ) → actor.worker ≡ worker → KnowsItsPoint state actor → ((turned state worker actor).worker_states other).attempt ≤ (state.worker_states other).attempt + 1
  turned_low actor other same knows =
      done_all (λ (after : State). (after.worker_states other).attempt ≤ (state.worker_states other).attempt + 1) (asks actor) state.cells
      (λ cells observation. moved state worker actor (made_of state worker actor cells observation))
      (λ cells observation. moved_low actor (made_of state worker actor cells observation) other (next_low actor actor.point same knows))

  -- a slot that is freed has the next number
  one_gate : (gates : ℕ → Gate) (given seq slot : ℕ) → (gates given).seq ≡ seq → (upd gates given (freed seq) slot).seq ≤ (gates slot).seq + 1
  one_gate gates given seq slot had = by_test (slot == given) refl
    where
      by_test : (test : Bool) → (slot == given) ≡ test → (if test then freed seq else gates slot).seq ≤ (gates slot).seq + 1
      by_test true is =
          let same : slot ≡ given = grind (arith, nat_tests, is) in
          subst (λ (n : ℕ). seq + 1 ≤ (gates n).seq + 1) (sym same) (omega (arith, had))
      by_test false is = omega arith

  none_frees : (n : ℕ) → n ≡ 0 → 1 ≤ n → ⊥
  none_frees n none some = omega (arith, none, some)

  freed_in_read : (actor : ActorState) (look : Reading) (point : ReadPoint) (slot : ℕ) → let a = record actor { point = Read (record look { point = point }) } in
      KnowsItsPoint state a → 1 ≤ frees_at slot a.point → ((turned state worker a).cells.gates slot).seq ≤ (state.cells.gates slot).seq + 1
  freed_in_read actor look (FreeOfRead given seq onward) slot knows some = one_gate state.cells.gates given seq slot knows.live.seq
  freed_in_read actor look point slot knows some = absurd (none_frees _ refl some)

  freed_low : (actor : ActorState) (point : Point) (slot : ℕ) → let a = record actor { point = point } in
      KnowsItsPoint state a → 1 ≤ frees_at slot point → ((turned state worker a).cells.gates slot).seq ≤ (state.cells.gates slot).seq + 1
  freed_low actor (Read look) slot knows some = freed_in_read actor look look.point slot knows some
  freed_low actor (FreeSlot given onward) slot knows some = one_gate state.cells.gates given.slot given.seq slot knows.live.0.seq
  freed_low actor point slot knows some = absurd (none_frees _ refl some)

module _ (config : Config) (state next : State) (sound : IsSound config state) where
  -- a step
  turn_rises : (actor : ActorState) → (state.worker_states actor.worker).actor ≡ Some actor → turn config state actor.worker (Some actor) ≡ Some next → Rises state next
  turn_rises actor sits is = record {
    slots = λ slot. by_frees slot (nothing_or_some (frees_at slot actor.point));
    attempts = λ other. subst (λ (after : State). (after.worker_states other).attempt ≤ (state.worker_states other).attempt + 1) its (turned_low state actor.worker actor other refl knows);
  }
    where
      knows : KnowsItsPoint state actor
      knows = (sound.requests actor.worker actor sits).stands

      its : turned state actor.worker actor ≡ next
      its = by_test (not (is_some (replied actor)) && may_make config (asks actor)) is
        where
          by_test : (test : Bool) → (if test then Some (turned state actor.worker actor) else None) ≡ Some next → turned state actor.worker actor ≡ next
          by_test true came = cc
          by_test false came = cc

      by_frees : (slot : ℕ) → (frees_at slot actor.point ≡ 0) ⊎ (1 ≤ frees_at slot actor.point) → (next.cells.gates slot).seq ≤ (state.cells.gates slot).seq + 1
      by_frees slot (inl none) = omega (arith, (stays_next config state next actor sound sits is slot none).number)
      by_frees slot (inr some) = subst (λ (after : State). (after.cells.gates slot).seq ≤ (state.cells.gates slot).seq + 1) its (freed_low state actor.worker actor actor.point slot knows some)

  turn_by : (worker : ℕ) (found : Option ActorState) → (state.worker_states worker).actor ≡ found → turn config state worker found ≡ Some next → Rises state next
  turn_by worker None sits is = absurd (none is)
    where
      none : None ≡ Some next → ⊥
      none e = cc
  turn_by worker (Some actor) sits is =
      let same = (sound.counts.worker_states worker actor sits).same_worker in
      turn_rises actor (subst (λ (n : ℕ). (state.worker_states n).actor ≡ Some actor) (sym same) sits) (subst (λ (n : ℕ). turn config state n (Some actor) ≡ Some next) (sym same) is)

  -- a call on a file
  no_attempt : (point : Point) (called : Called) (attempt : ℕ) → called_at point ≡ Some called → next_attempt point attempt ≤ attempt + 1
  no_attempt (Plant task entry number) called attempt at = absurd (none at)
    where
      none : None ≡ Some called → ⊥
      none e = cc
  no_attempt point called attempt at = omega arith

  call_low : (worker other : ℕ) (actor : ActorState) (called : Called) (made : Option Made) → called_at actor.point ≡ Some called → moved_if state worker actor made ≡ Some next
      → (next.worker_states other).attempt ≤ (state.worker_states other).attempt + 1
  call_low worker other actor called None at is = absurd (none is)
    where
      none : None ≡ Some next → ⊥
      none e = cc
  call_low worker other actor called (Some made) at is =
      subst (λ (after : State). (after.worker_states other).attempt ≤ (state.worker_states other).attempt + 1) (same is)
      (moved_low state worker actor made other (no_attempt actor.point called (state.worker_states worker).attempt at))
    where
      same : Some (moved state worker actor made) ≡ Some next → moved state worker actor made ≡ next
      same e = cc

  call_rises : (actor : ActorState) (outcome : Outcome) (found : Option Called) → (state.worker_states actor.worker).actor ≡ Some actor → called_at actor.point ≡ found
      → call config state actor.worker (Some actor) outcome ≡ Some next → Rises state next
  call_rises actor outcome None sits at is = absurd (none (subst (λ (found : Option Called). call_if config state actor.worker actor found outcome ≡ Some next) at is))
    where
      none : None ≡ Some next → ⊥
      none e = cc
  call_rises actor outcome (Some called) sits at is = record {
    slots = λ slot. omega (arith, (gates_stay config state next actor called outcome sound sits at is slot).number);
    attempts = λ other. call_low actor.worker other actor called (calling config state actor called outcome) at
        (if_slot (has_slot config called.change.slot) (moved_if state actor.worker actor (calling config state actor called outcome)) next
        (subst (λ (found : Option Called). call_if config state actor.worker actor found outcome ≡ Some next) at is));
  }

  call_by : (worker : ℕ) (found : Option ActorState) (outcome : Outcome) → (state.worker_states worker).actor ≡ found → call config state worker found outcome ≡ Some next → Rises state next
  call_by worker None outcome sits is = absurd (none is)
    where
      none : None ≡ Some next → ⊥
      none e = cc
  call_by worker (Some actor) outcome sits is =
      let same = (sound.counts.worker_states worker actor sits).same_worker in
      call_rises actor outcome (called_at actor.point) (subst (λ (n : ℕ). (state.worker_states n).actor ≡ Some actor) (sym same) sits) refl
      (subst (λ (n : ℕ). call config state n (Some actor) outcome ≡ Some next) (sym same) is)

-- After so many events no slot has a number above the first one plus these, and no worker's next attempt has a number above these.
record IsBelow (config : Config) (many : ℕ) (state : State) : Type 0 where
  slots : (slot : ℕ) → (state.cells.gates slot).seq ≤ config.seq + many
  attempts : (worker : ℕ) → (state.worker_states worker).attempt ≤ many

below_more : (config : Config) (many : ℕ) (state next : State) → IsBelow config many state → Rises state next → IsBelow config (many + 1) next
below_more config many state next below rises = record {
  slots = λ slot. omega (arith, below.slots slot, rises.slots slot);
  attempts = λ worker. omega (arith, below.attempts worker, rises.attempts worker);
}

-- one event more
event_below : (config : Config) (many : ℕ) (state next : State) (event : WorldEvent) → IsSound config state → IsBelow config many state → step config state event ≡ Some next → IsBelow config (many + 1) next
event_below config many state next (Come worker tenant job) sound below is = below_more config many state next below (same_rises state next (comes_leave config state next worker tenant job is))
event_below config many state next (StepEvent worker) sound below is = below_more config many state next below (turn_by config state next sound worker (state.worker_states worker).actor refl is)
event_below config many state next (FileEvent worker outcome) sound below is = below_more config many state next below (call_by config state next sound worker (state.worker_states worker).actor outcome refl is)
event_below config many state next (Hand worker) sound below is = below_more config many state next below (same_rises state next (hands_leave state next worker is))
event_below config many state next (Restart founds) sound below is =
    guarded (IsBelow config (many + 1)) (may_start config state founds) (restarted config state founds) next
    (λ may. record { slots = λ slot. omega arith; attempts = λ worker. omega arith }) is

-- all events of a run
run_below : (config : Config) (events : List WorldEvent) (many : ℕ) (state last : State) → IsConfig config → IsSound config state → FilesFit state → IsBelow config many state
    → run config state events ≡ Some last → IsBelow config (many + length events) last
run_below config [] many state last is_config sound fit below is =
    subst (IsBelow config (many + 0)) (same is) (record { slots = λ slot. omega (arith, below.slots slot); attempts = λ worker. omega (arith, below.attempts worker) })
  where
    same : Some state ≡ Some last → state ≡ last
    same e = cc
run_below config (event ∷ events) many state last is_config sound fit below is =
    by_step (step config state event) refl is (λ next. run_below config events (many + 1) next last is_config)
  where
    by_step : (found : Option State) → step config state event ≡ found → option_and_then (λ next. run config next events) found ≡ Some last
        → ((next : State) → IsSound config next → FilesFit next → IsBelow config (many + 1) next → run config next events ≡ Some last → IsBelow config (many + 1 + length events) last)
        → IsBelow config (many + length (event ∷ events)) last
    by_step None stepped came goes_on = absurd (none came)
      where
        none : None ≡ Some last → ⊥
        none e = cc
    by_step (Some next) stepped came goes_on =
        let both = events_keep_sound config state next event is_config sound fit stepped in
        let after = goes_on next both.0 both.1 (event_below config many state next event sound below stepped) came in
        record { slots = λ slot. omega (arith, after.slots slot); attempts = λ worker. omega (arith, after.attempts worker) }

-- a beginning is no longer than the whole
no_longer : (first rest : List WorldEvent) → length first ≤ length (first ++ rest)
no_longer [] rest = omega arith
no_longer (event ∷ first) rest = omega (arith, no_longer first rest)

pub short_runs_have_numbers : ShortRunsHaveNumbers
short_runs_have_numbers config openings events state played short = record {
  played = played;
  numbers = λ first rest between splits runs.
      let below = run_below config first 0 (world_at config openings) between played.made (starts_are_sound config openings played.made played.starts) (starts_fit config openings played.starts)
      (record { slots = λ slot. omega arith; attempts = λ worker. omega arith }) runs in
      let few : length first ≤ length events = subst (λ (all : List WorldEvent). length first ≤ length all) (sym splits) (no_longer first rest) in
      record {
        slots = λ slot low free is. absurd (past (omega (arith, below.slots slot, few, short)) is);
        attempts = λ worker low is. absurd (past (omega (arith, below.attempts worker, few, short)) is);
      };
}
  where
    past : {n : ℕ} → n < WORN_NUMBER → n ≡ WORN_NUMBER → ⊥
    past low is = omega (arith, low, is)
