-- After every run, each request's point names only slots of the pool and entries that a change may have. So its next step is
-- at a word that exists.
-- Used by: places_are_there, mw_law_store.
use Rattle.std.specs.Prelude.{ℕ, ◌≡◌, ◌≢◌, ◌≤◌, ◌<◌, ◌⊎◌, ◌==◌, ◌&&◌, true, nat_lt, is_none, List, [], ◌∷◌, length, if◌then◌else◌, Option, Some, None}
use Rattle.std.specs.Option.{option_and_then}
use Rattle.std.proofs.Common.{refl, sym, ap, subst, ◌∙◌, inl, inr, arith}
use Rattle.std.proofs.lemmas.Bool.Decides.{nat_tests}
use Rattle.mw_words.specs.declared.jobs.Job.{Job}
use Rattle.mw_words.specs.declared.jobs.Job.TheVariants.{Get, Cas}
use Rattle.mw_look.specs.declared.observations.Observation.{Observation}
use Rattle.mw_look.specs.Steps.{Step, Load, Change, File as FileStep}
use Rattle.mw_actor.specs.declared.points.Point.{Point}
use Rattle.mw_actor.specs.declared.points.Point.TheVariants.{Prepare, Seal, Settle, Cancel}
use Rattle.mw_actor.specs.ActorState.{ActorState, first_point}
use Rattle.mw_actor.specs.Asks.{asks, asks_at}
use Rattle.mw_actor.specs.Program.{replied}
use Rattle.mw_world.specs.declared.outcomes.Outcome.{Outcome}
use Rattle.mw_world.specs.declared.config.Config.{Config}
use Rattle.mw_world.specs.Definition.Calls.{Called, call, call_if, called_at}
use Rattle.mw_world.specs.Definition.Cells.{Cells}
use Rattle.mw_world.specs.Definition.Events.{WorldEvent, Come, Step as StepEvent, File as FileEvent, Hand, Restart}
use Rattle.mw_world.specs.Definition.Requests.{came, gave}
use Rattle.mw_world.specs.Definition.Restarts.{restarted}
use Rattle.mw_world.specs.Definition.State.{State, WorkerState, IsConfig, tenants_of, world_at}
use Rattle.mw_world.specs.Definition.Turns.{turn, next_attempt}
use Rattle.mw_world.specs.Definition.World.{come, hand, handed, may_come, run, step}
use Rattle.mw_world.specs.Claim.Headline.{IsExecution}
use Rattle.mw_law_runs.proofs.Moves.StepsKeepMemory.{comes_leave, hands_leave}
use Rattle.mw_law_runs.proofs.Counts.Startable.{may_start}
use Rattle.mw_law_runs.proofs.Knowledge.Updates.Preservation.{upd_here, upd_else}
use Rattle.mw_law_runs.specs.Files.{FilesFit}
use Rattle.mw_law_runs.specs.Obligations.{OneStepped}
use Rattle.mw_law_runs.specs.Places.{AreWithin, IsWithin, PlacesAreThere}
use Rattle.mw_law_runs.specs.RunInvariant.{IsSound}
use Rattle.mw_law_runs.proofs.ArrivalsAndStarts.{starts_are_sound}
use Rattle.mw_law_runs.proofs.StepEnds.{Ends}
use Rattle.mw_law_runs.proofs.FileCalls as filing
use Rattle.mw_law_runs.proofs.Numbers.{same_or_other}
use Rattle.mw_law_runs.proofs.Obligations.Pins.{none_some, some_same}
use Rattle.mw_law_runs.proofs.Places.NextPoints.{IsTold, goes_within}
use Rattle.mw_law_runs.proofs.Places.There.{place_there}
use Rattle.mw_law_runs.proofs.RunsAreSound.{events_keep_sound, starts_fit}
use Rattle.mw_law_runs.proofs.RequestsInWorlds.{have_their_requests}
use Rattle.mw_law_runs.proofs.GuardedEvents.{guarded}
use Rattle.mw_law_runs.proofs.StepsKeepInvariant as turning

-- what a request learns of its step
loads_told : (cells : Cells) (asked : Step) (observation : Observation) → Ends cells asked observation → IsTold cells asked observation
loads_told cells (Load at) observation (inl quiet) = quiet
loads_told cells (Load at) observation (inr changes) = absurd changes
loads_told cells (Change kind at from to) observation ends = tt
loads_told cells (FileStep call slot) observation ends = tt

-- a call on a file tells a request nothing of a place
calls_told : (cells : Cells) (actor : ActorState) (point : Point) (called : Called) (observation : Observation) → called_at point ≡ Some called → IsTold cells (asks_at actor point) observation
calls_told cells actor (Prepare own) called observation at = tt
calls_told cells actor (Seal task) called observation at = tt
calls_told cells actor (Settle task) called observation at = tt
calls_told cells actor (Cancel task) called observation at = tt
calls_told cells actor point called observation at = absurd (none_some called at)

module _ (config : Config) (state next : State) (sound : IsSound config state) (within : AreWithin config state) where
  -- one request goes on
  one_goes : (worker : ℕ) (later : ActorState) → worker < config.workers → OneStepped state next worker later → IsWithin config.pool later.point
      → ((other : ℕ) → other ≢ worker → (next.worker_states other).attempt ≡ (state.worker_states other).attempt) → AreWithin config next
  one_goes worker later there stepped is same = record {
    points = λ other one sits. by_worker other one sits (same_or_other other worker);
    attempts = λ other past. same other (λ e. absurd (beyond other past e)) ∙ within.attempts other past;
  }
    where
      beyond : (other : ℕ) → config.workers ≤ other → other ≡ worker → ⊥
      beyond other past e = omega (arith, past, e, there)

      by_worker : (other : ℕ) (one : ActorState) → (next.worker_states other).actor ≡ Some one → (other ≡ worker) ⊎ (other ≢ worker) → IsWithin config.pool one.point
      by_worker other one sits (inl here) =
          subst (λ (its : ActorState). IsWithin config.pool its.point) (some_same later one (sym stepped.goes_on ∙ ap (λ (n : ℕ). (next.worker_states n).actor) (sym here) ∙ sits)) is
      by_worker other one sits (inr apart) = within.points other one (sym (stepped.others other apart) ∙ sits)

  turn_within : (actor : ActorState) → (state.worker_states actor.worker).actor ≡ Some actor → turn config state actor.worker (Some actor) ≡ Some next → AreWithin config next
  turn_within actor sits is =
      let ended = turning.ended config state next actor sound sits is in
      one_goes actor.worker _ (sound.counts.worker_states actor.worker actor sits).there ended.stepped
      (goes_within config state actor (next_attempt actor.point (state.worker_states actor.worker).attempt) ended.observation (have_their_requests config state sound actor.worker actor sits).informed
      (loads_told state.cells (asks actor) ended.observation ended.ends) (within.points actor.worker actor sits))
      (turning.later config state next actor sound sits is).own_attempts

  turn_by : (worker : ℕ) (found : Option ActorState) → (state.worker_states worker).actor ≡ found → turn config state worker found ≡ Some next → AreWithin config next
  turn_by worker None sits is = absurd (none_some next is)
  turn_by worker (Some actor) sits is =
      let same = (sound.counts.worker_states worker actor sits).same_worker in
      turn_within actor (subst (λ (n : ℕ). (state.worker_states n).actor ≡ Some actor) (sym same) sits) (subst (λ (n : ℕ). turn config state n (Some actor) ≡ Some next) (sym same) is)

  call_within : (actor : ActorState) (outcome : Outcome) (found : Option Called) → (state.worker_states actor.worker).actor ≡ Some actor → called_at actor.point ≡ found
      → call config state actor.worker (Some actor) outcome ≡ Some next → AreWithin config next
  call_within actor outcome None sits at is = absurd (none_some next (subst (λ (found : Option Called). call_if config state actor.worker actor found outcome ≡ Some next) at is))
  call_within actor outcome (Some called) sits at is =
      one_goes actor.worker _ (sound.counts.worker_states actor.worker actor sits).there (filing.stepped config state next actor called outcome sound sits at is)
      (goes_within config state actor (next_attempt actor.point (state.worker_states actor.worker).attempt) _ (have_their_requests config state sound actor.worker actor sits).informed
      (calls_told state.cells actor actor.point called _ at) (within.points actor.worker actor sits))
      (filing.later config state next actor called outcome sound sits at is).own_attempts

  call_by : (worker : ℕ) (found : Option ActorState) (outcome : Outcome) → (state.worker_states worker).actor ≡ found → call config state worker found outcome ≡ Some next → AreWithin config next
  call_by worker None outcome sits is = absurd (none_some next is)
  call_by worker (Some actor) outcome sits is =
      let same = (sound.counts.worker_states worker actor sits).same_worker in
      call_within actor outcome (called_at actor.point) (subst (λ (n : ℕ). (state.worker_states n).actor ≡ Some actor) (sym same) sits) refl
      (subst (λ (n : ℕ). call config state n (Some actor) outcome ≡ Some next) (sym same) is)

-- the point at which a request begins
first_within : (pool tenant : ℕ) (job : Job) → IsWithin pool (first_point tenant job)
first_within pool tenant (Get address) = tt
first_within pool tenant (Cas entries) = tt

module _ (config : Config) (state : State) (within : AreWithin config state) where
  came_within : (worker tenant : ℕ) (job : Job) → come config state worker tenant job ≡ Some (came config state worker tenant job) → AreWithin config (came config state worker tenant job)
  came_within worker tenant job is = record {
    points = λ other one sits. by_worker other one sits (same_or_other other worker);
    attempts = λ other past. (comes_leave config state (came config state worker tenant job) worker tenant job is).attempts other ∙ within.attempts other past;
  }
    where
      next : State
      next = came config state worker tenant job

      by_worker : (other : ℕ) (one : ActorState) → ((came config state worker tenant job).worker_states other).actor ≡ Some one → (other ≡ worker) ⊎ (other ≢ worker) → IsWithin config.pool one.point
      by_worker other one sits (inl here) =
          subst (λ (its : ActorState). IsWithin config.pool its.point)
          (some_same _ one (sym (ap (λ (worker_state : WorkerState). worker_state.actor) (upd_here state.worker_states worker _)) ∙ ap (λ (n : ℕ). ((came config state worker tenant job).worker_states n).actor) (sym here) ∙ sits))
          (first_within config.pool tenant job)
      by_worker other one sits (inr apart) = within.points other one (sym (ap (λ (worker_state : WorkerState). worker_state.actor) (upd_else state.worker_states worker other _ apart)) ∙ sits)

  gave_within : (worker tenant : ℕ) → AreWithin config (gave state worker tenant)
  gave_within worker tenant = record {
    points = λ other one sits. by_worker other one sits (same_or_other other worker);
    attempts = λ other past. by_attempt other (same_or_other other worker) ∙ within.attempts other past;
  }
    where
      by_worker : (other : ℕ) (one : ActorState) → ((gave state worker tenant).worker_states other).actor ≡ Some one → (other ≡ worker) ⊎ (other ≢ worker) → IsWithin config.pool one.point
      by_worker other one sits (inl here) =
          absurd (none_some one (sym (ap (λ (worker_state : WorkerState). worker_state.actor) (upd_here state.worker_states worker _)) ∙ ap (λ (n : ℕ). ((gave state worker tenant).worker_states n).actor) (sym here) ∙ sits))
      by_worker other one sits (inr apart) = within.points other one (sym (ap (λ (worker_state : WorkerState). worker_state.actor) (upd_else state.worker_states worker other _ apart)) ∙ sits)

      by_attempt : (other : ℕ) → (other ≡ worker) ⊎ (other ≢ worker) → ((gave state worker tenant).worker_states other).attempt ≡ (state.worker_states other).attempt
      by_attempt other (inl here) =
          ap (λ (n : ℕ). ((gave state worker tenant).worker_states n).attempt) here ∙ ap (λ (worker_state : WorkerState). worker_state.attempt) (upd_here state.worker_states worker _) ∙ ap (λ (n : ℕ). (state.worker_states n).attempt) (sym here)
      by_attempt other (inr apart) = ap (λ (worker_state : WorkerState). worker_state.attempt) (upd_else state.worker_states worker other _ apart)

  hand_by : (next : State) (worker : ℕ) (found : Option ActorState) → hand state worker found ≡ Some next → AreWithin config next
  hand_by next worker None is = absurd (none_some next is)
  hand_by next worker (Some actor) is = by_reply (replied actor) is
    where
      by_reply : (reply : _) → handed state worker actor.tenant reply ≡ Some next → AreWithin config next
      by_reply None given = absurd (none_some next given)
      by_reply (Some reply) given = subst (AreWithin config) (some_same (gave state worker actor.tenant) next given) (gave_within worker actor.tenant)

-- Every event keeps this.
event_within : (config : Config) (state next : State) (event : WorldEvent) → IsSound config state → AreWithin config state → step config state event ≡ Some next → AreWithin config next
event_within config state next (Come worker tenant job) sound within is =
    guarded (λ (one : State). come config state worker tenant job ≡ Some one → AreWithin config one) (may_come config state worker tenant job) (came config state worker tenant job) next
    (λ may came_so. came_within config state within worker tenant job came_so) is is
event_within config state next (StepEvent worker) sound within is = turn_by config state next sound within worker (state.worker_states worker).actor refl is
event_within config state next (FileEvent worker outcome) sound within is = call_by config state next sound within worker (state.worker_states worker).actor outcome refl is
event_within config state next (Hand worker) sound within is = hand_by config state within next worker (state.worker_states worker).actor is
event_within config state next (Restart founds) sound within is =
    guarded (AreWithin config) (may_start config state founds) (restarted config state founds) next
    (λ may. record { points = λ worker actor sits. absurd (none_some actor sits); attempts = λ worker past. refl }) is

-- from any sound world on
run_within : (config : Config) (events : List WorldEvent) (state last : State) → IsConfig config → IsSound config state → FilesFit state → AreWithin config state
    → run config state events ≡ Some last → IsSound config last × AreWithin config last
run_within config [] state last is_config sound fit within is = subst (λ (one : State). IsSound config one × AreWithin config one) (some_same state last is) (sound, within)
run_within config (event ∷ events) state last is_config sound fit within is = by_step (step config state event) refl is (λ next. run_within config events next last is_config)
  where
    by_step : (found : Option State) → step config state event ≡ found → option_and_then (λ next. run config next events) found ≡ Some last
        → ((next : State) → IsSound config next → FilesFit next → AreWithin config next → run config next events ≡ Some last → IsSound config last × AreWithin config last)
        → IsSound config last × AreWithin config last
    by_step None stepped came_so goes_on = absurd (none_some last came_so)
    by_step (Some next) stepped came_so goes_on =
        let kept = events_keep_sound config state next event is_config sound fit stepped in
        goes_on next kept.0 kept.1 (event_within config state next event sound within stepped) came_so

pub places_are_there : PlacesAreThere
places_are_there config openings events state worker actor played sits none no_call =
    let sound = starts_are_sound config openings played.made played.starts in
    let both = run_within config events (world_at config openings) state played.made sound (starts_fit config openings played.starts)
    (record { points = λ other one is. absurd (none_some one is); attempts = λ other past. refl }) played.runs in
    place_there config state actor both.1.attempts (have_their_requests config state both.0 worker actor sits).informed (both.1.points worker actor sits) no_call
