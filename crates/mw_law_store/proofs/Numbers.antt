-- In a run in which no number is used up, no request comes to a point from which it answers WORN.
-- Used by: runs_are_not_worn, mw_law_threads.
use Rattle.std.specs.Prelude.{ℕ, ◌≡◌, ◌≢◌, ◌<◌, ◌⊎◌, ◌==◌, ◌&&◌, Bool, true, false, not, is_some, [], Option, Some, None}
use Rattle.std.proofs.Common.{refl, sym, ap, subst, ◌∙◌, append-nil, inl, inr, arith}
use Rattle.std.proofs.lemmas.Bool.Decides.{nat_tests}
use Rattle.mw_words.specs.declared.gates.Gate.{Gate}
use Rattle.mw_words.specs.declared.jobs.Job.{Job}
use Rattle.mw_words.specs.declared.jobs.Job.TheVariants.{Get, Cas}
use Rattle.mw_words.specs.declared.limits.TheConstants.{WORN_NUMBER}
use Rattle.mw_words.specs.declared.places.At.TheVariants.{Gate as AtGate}
use Rattle.mw_words.specs.declared.replies.Reply.{Reply}
use Rattle.mw_look.specs.declared.observations.Observation.{Observation}
use Rattle.mw_look.specs.declared.observations.Observation.TheVariants.{SawGate}
use Rattle.mw_look.specs.Steps.{Step, Load}
use Rattle.mw_actor.specs.declared.points.Point.{Point}
use Rattle.mw_actor.specs.declared.points.Point.TheVariants.{ScanGate}
use Rattle.mw_actor.specs.ActorState.{ActorState, first_point}
use Rattle.mw_actor.specs.Admission.{is_worn}
use Rattle.mw_actor.specs.Asks.{asks, asks_at}
use Rattle.mw_actor.specs.Program.{replied}
use Rattle.mw_world.specs.declared.outcomes.Outcome.{Outcome}
use Rattle.mw_world.specs.declared.config.Config.{Config}
use Rattle.mw_world.specs.Claim.Headline.{HasNumbers}
use Rattle.mw_world.specs.Definition.Calls.{Called, call, call_if, called_at}
use Rattle.mw_world.specs.Definition.Cells.{read}
use Rattle.mw_world.specs.Definition.Events.{WorldEvent, Come, Step as StepEvent, File as FileEvent, Hand, Restart}
use Rattle.mw_world.specs.Definition.Requests.{came, gave}
use Rattle.mw_world.specs.Definition.Restarts.{restarted}
use Rattle.mw_world.specs.Definition.State.{State, WorkerState}
use Rattle.mw_world.specs.Definition.Turns.{turn, turned, may_make}
use Rattle.mw_world.specs.Definition.World.{come, hand, handed, may_come, step}
use Rattle.mw_law_runs.proofs.Counts.Startable.{may_start}
use Rattle.mw_law_runs.proofs.Moves.StepsKeepMemory.{comes_leave, hands_leave}
use Rattle.mw_law_runs.proofs.Knowledge.Updates.Preservation.{upd_here, upd_else}
use Rattle.mw_law_runs.specs.Obligations.{OneStepped}
use Rattle.mw_law_runs.specs.RunInvariant.{IsSound}
use Rattle.mw_law_runs.proofs.StepEnds.{Ends}
use Rattle.mw_law_runs.proofs.FileCalls as filing
use Rattle.mw_law_runs.proofs.Numbers.{same_or_other}
use Rattle.mw_law_runs.proofs.Obligations.Pins.{none_some, some_same}
use Rattle.mw_law_runs.proofs.RunsAreSound.{runs_are_sound}
use Rattle.mw_law_runs.proofs.GuardedEvents.{guarded, second_holds}
use Rattle.mw_law_runs.proofs.StepsKeepInvariant as turning
use Rattle.mw_law_store.specs.Worn.{NoneIsWorn, RunsAreNotWorn}
use Rattle.mw_law_store.proofs.Attempts.{call_low, stays_low, turn_low}
use Rattle.mw_law_store.proofs.Beginnings.{run_by_events}
use Rattle.mw_law_store.proofs.WornNumbers.{IsFresh, goes_fresh}

-- A gate that is read is not worn.

whole_by : (taken : Bool) (seq : ℕ) → (taken ≡ false → seq ≢ WORN_NUMBER) → (not taken && (seq == WORN_NUMBER)) ≡ false
whole_by true seq left = refl
whole_by false seq left = let apart = left refl in grind (arith, nat_tests, apart)

same_gate : (one other : Gate) → SawGate one ≡ SawGate other → one ≡ other
same_gate one other e = cc

gate_seen : (config : Config) (state : State) (slot : ℕ) (gate : Gate) → HasNumbers config state → may_make config (Load (AtGate slot)) ≡ true → Ends state.cells (Load (AtGate slot)) (SawGate gate) → is_worn gate ≡ false
gate_seen config state slot gate numbers may (inr changes) = absurd changes
gate_seen config state slot gate numbers may (inl is) =
    let within : slot < config.pool = grind (arith, nat_tests, may) in
    ap is_worn (same_gate gate (state.cells.gates slot) is) ∙ whole_by (state.cells.gates slot).taken (state.cells.gates slot).seq (numbers.slots slot within)

scan_seen : (config : Config) (state : State) (actor : ActorState) (observation : Observation) → HasNumbers config state → may_make config (asks actor) ≡ true → Ends state.cells (asks actor) observation
    → (slot : ℕ) (saw_worn : Bool) (gate : Gate) → actor.point ≡ ScanGate slot saw_worn → observation ≡ SawGate gate → is_worn gate ≡ false
scan_seen config state actor observation numbers may ends slot saw_worn gate at sees =
    let asked : asks actor ≡ Load (AtGate slot) = ap (asks_at actor) at in
    gate_seen config state slot gate numbers (subst (λ (made : Step). may_make config made ≡ true) asked may)
    (subst (λ (made : Step). Ends state.cells made (SawGate gate)) asked (subst (λ (told : Observation). Ends state.cells (asks actor) told) sees ends))

-- a request that will call its file scans no gate
no_scan : (point : Point) (called : Called) (slot : ℕ) (saw_worn : Bool) → called_at point ≡ Some called → point ≡ ScanGate slot saw_worn → ⊥
no_scan point called slot saw_worn at is = none_some called (sym (ap called_at is) ∙ at)

-- Points.

-- one request goes on, and all others stay at their points
one_goes : (state next : State) (worker : ℕ) (later : ActorState) → OneStepped state next worker later → IsFresh later.point → NoneIsWorn state
    → (other : ℕ) (one : ActorState) → (next.worker_states other).actor ≡ Some one → IsFresh one.point
one_goes state next worker later stepped fresh none other one sits = by_worker (same_or_other other worker)
  where
    by_worker : (other ≡ worker) ⊎ (other ≢ worker) → IsFresh one.point
    by_worker (inl here) = subst (λ (its : ActorState). IsFresh its.point) (some_same later one (sym stepped.goes_on ∙ ap (λ (n : ℕ). (next.worker_states n).actor) (sym here) ∙ sits)) fresh
    by_worker (inr apart) = none.points other one (sym (stepped.others other apart) ∙ sits)

module _ (config : Config) (state next : State) (sound : IsSound config state) (numbers : HasNumbers config state) (none : NoneIsWorn state) where
  -- a number is left for the next attempt
  is_left : (actor : ActorState) → (state.worker_states actor.worker).actor ≡ Some actor → (state.worker_states actor.worker).attempt < WORN_NUMBER
  is_left actor sits =
      let there = (sound.counts.worker_states actor.worker actor sits).there in
      let apart = numbers.attempts actor.worker there in
      let low = none.attempts actor.worker in
      omega (arith, apart, low)

  turn_fresh : (actor : ActorState) → (state.worker_states actor.worker).actor ≡ Some actor → turn config state actor.worker (Some actor) ≡ Some next → NoneIsWorn next
  turn_fresh actor sits is =
      let ended = turning.ended config state next actor sound sits is in
      let test = not (is_some (replied actor)) && may_make config (asks actor) in
      let may = guarded (λ one. may_make config (asks actor) ≡ true) test (turned state actor.worker actor) next (λ both. second_holds (not (is_some (replied actor))) (may_make config (asks actor)) both) is in
      record {
        points = one_goes state next actor.worker _ ended.stepped
            (goes_fresh actor (state.worker_states actor.worker).attempt actor.point ended.observation (is_left actor sits) (scan_seen config state actor ended.observation numbers may ended.ends) (none.points actor.worker actor sits)) none;
        attempts = turn_low config state next sound none.attempts actor sits is;
      }

  turn_by : (worker : ℕ) (found : Option ActorState) → (state.worker_states worker).actor ≡ found → turn config state worker found ≡ Some next → NoneIsWorn next
  turn_by worker None sits is = absurd (none_some next is)
  turn_by worker (Some actor) sits is =
      let same = (sound.counts.worker_states worker actor sits).same_worker in
      turn_fresh actor (subst (λ (n : ℕ). (state.worker_states n).actor ≡ Some actor) (sym same) sits) (subst (λ (n : ℕ). turn config state n (Some actor) ≡ Some next) (sym same) is)

  call_fresh : (actor : ActorState) (outcome : Outcome) (found : Option Called) → (state.worker_states actor.worker).actor ≡ Some actor → called_at actor.point ≡ found
      → call config state actor.worker (Some actor) outcome ≡ Some next → NoneIsWorn next
  call_fresh actor outcome None sits at is = absurd (none_some next (subst (λ (found : Option Called). call_if config state actor.worker actor found outcome ≡ Some next) at is))
  call_fresh actor outcome (Some called) sits at is = record {
    points = one_goes state next actor.worker _ (filing.stepped config state next actor called outcome sound sits at is)
        (goes_fresh actor (state.worker_states actor.worker).attempt actor.point _ (is_left actor sits) (λ slot saw_worn gate here sees. absurd (no_scan actor.point called slot saw_worn at here)) (none.points actor.worker actor sits)) none;
    attempts = call_low config state next sound none.attempts actor outcome (Some called) sits at is;
  }

  call_by : (worker : ℕ) (found : Option ActorState) (outcome : Outcome) → (state.worker_states worker).actor ≡ found → call config state worker found outcome ≡ Some next → NoneIsWorn next
  call_by worker None outcome sits is = absurd (none_some next is)
  call_by worker (Some actor) outcome sits is =
      let same = (sound.counts.worker_states worker actor sits).same_worker in
      call_fresh actor outcome (called_at actor.point) (subst (λ (n : ℕ). (state.worker_states n).actor ≡ Some actor) (sym same) sits) refl
      (subst (λ (n : ℕ). call config state n (Some actor) outcome ≡ Some next) (sym same) is)

-- a request begins so
first_fresh : (tenant : ℕ) (job : Job) → IsFresh (first_point tenant job)
first_fresh tenant (Get address) = refl
first_fresh tenant (Cas entries) = refl

came_fresh : (config : Config) (state : State) (worker tenant : ℕ) (job : Job) → NoneIsWorn state → come config state worker tenant job ≡ Some (came config state worker tenant job) → NoneIsWorn (came config state worker tenant job)
came_fresh config state worker tenant job none is = record {
  points = one_goes state (came config state worker tenant job) worker _ (record {
    goes_on = ap (λ (worker_state : WorkerState). worker_state.actor) (upd_here state.worker_states worker _);
    others = λ other apart. ap (λ (worker_state : WorkerState). worker_state.actor) (upd_else state.worker_states worker other _ apart);
  }) (first_fresh tenant job) none;
  attempts = λ other. stays_low _ _ ((comes_leave config state (came config state worker tenant job) worker tenant job is).attempts other) (none.attempts other);
}

-- a request that was handed out is no longer there
gave_fresh : (state : State) (worker tenant : ℕ) → NoneIsWorn state → ((other : ℕ) → ((gave state worker tenant).worker_states other).attempt ≡ (state.worker_states other).attempt) → NoneIsWorn (gave state worker tenant)
gave_fresh state worker tenant none same = record {
  points = λ other one sits. by_worker other one sits (same_or_other other worker);
  attempts = λ other. stays_low _ _ (same other) (none.attempts other);
}
  where
    by_worker : (other : ℕ) (one : ActorState) → ((gave state worker tenant).worker_states other).actor ≡ Some one → (other ≡ worker) ⊎ (other ≢ worker) → IsFresh one.point
    by_worker other one sits (inl here) =
        absurd (none_some one (sym (ap (λ (worker_state : WorkerState). worker_state.actor) (upd_here state.worker_states worker _)) ∙ ap (λ (n : ℕ). ((gave state worker tenant).worker_states n).actor) (sym here) ∙ sits))
    by_worker other one sits (inr apart) = none.points other one (sym (ap (λ (worker_state : WorkerState). worker_state.actor) (upd_else state.worker_states worker other _ apart)) ∙ sits)

hand_fresh : (state next : State) (worker : ℕ) (found : Option ActorState) → (state.worker_states worker).actor ≡ found → NoneIsWorn state → hand state worker found ≡ Some next → ((other : ℕ) → (next.worker_states other).attempt ≡ (state.worker_states other).attempt) → NoneIsWorn next
hand_fresh state next worker None sits none is same = absurd (none_some next is)
hand_fresh state next worker (Some actor) sits none is same = by_reply (replied actor) is
  where
    by_reply : (reply : Option Reply) → handed state worker actor.tenant reply ≡ Some next → NoneIsWorn next
    by_reply None given = absurd (none_some next given)
    by_reply (Some reply) given =
        let is_next = some_same (gave state worker actor.tenant) next given in
        subst NoneIsWorn is_next (gave_fresh state worker actor.tenant none (λ other. ap (λ (one : State). (one.worker_states other).attempt) is_next ∙ same other))

-- Every event keeps that so.
pub event_fresh : (config : Config) (state next : State) (event : WorldEvent) → IsSound config state → HasNumbers config state → NoneIsWorn state → step config state event ≡ Some next → NoneIsWorn next
event_fresh config state next (Come worker tenant job) sound numbers none is =
    guarded (λ (one : State). come config state worker tenant job ≡ Some one → NoneIsWorn one) (may_come config state worker tenant job) (came config state worker tenant job) next
    (λ may came_so. came_fresh config state worker tenant job none came_so) is is
event_fresh config state next (StepEvent worker) sound numbers none is = turn_by config state next sound numbers none worker (state.worker_states worker).actor refl is
event_fresh config state next (FileEvent worker outcome) sound numbers none is = call_by config state next sound numbers none worker (state.worker_states worker).actor outcome refl is
event_fresh config state next (Hand worker) sound numbers none is = hand_fresh state next worker (state.worker_states worker).actor refl none is (hands_leave state next worker is).attempts
event_fresh config state next (Restart founds) sound numbers none is =
    guarded NoneIsWorn (may_start config state founds) (restarted config state founds) next
    (λ may. record { points = λ worker actor sits. absurd (none_some actor sits); attempts = λ worker. omega arith }) is

pub runs_are_not_worn : RunsAreNotWorn
runs_are_not_worn config openings = run_by_events config openings (λ events state. NoneIsWorn state)
    (record { points = λ worker actor sits. absurd (none_some actor sits); attempts = λ worker. omega arith })
    (λ events event state next of_run none is.
    event_fresh config state next event (runs_are_sound config openings events state of_run.played).0 (of_run.numbers events [] state (sym (append-nil events)) of_run.played.runs) none is)
