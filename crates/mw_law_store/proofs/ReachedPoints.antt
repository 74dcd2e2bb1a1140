-- After every run, each request is at a point that `ReachablePoints` lists. Used by: ServiceLaws.
use Rattle.std.specs.Prelude.{ℕ, ◌≡◌, ◌≢◌, ◌⊎◌, Bool, true, false, List, [], ◌∷◌, Option, Some, None}
use Rattle.std.specs.Option.{option_and_then}
use Rattle.std.proofs.Common.{refl, sym, ap, subst, ◌∙◌, inl, inr}
use Rattle.mw_words.specs.declared.jobs.Job.{Job}
use Rattle.mw_words.specs.declared.jobs.Job.TheVariants.{Get, Cas}
use Rattle.mw_words.specs.declared.replies.Reply.{Reply}
use Rattle.mw_look.specs.declared.observations.Observation.TheVariants.{Filed}
use Rattle.mw_actor.specs.ActorState.{ActorState, own_entries, first}
use Rattle.mw_actor.specs.Program.{goes as goes_to, replied}
use Rattle.mw_world.specs.declared.outcomes.Outcome.{Outcome}
use Rattle.mw_world.specs.Maps.{upd}
use Rattle.mw_world.specs.declared.config.Config.{Config}
use Rattle.mw_world.specs.Claim.Headline.{IsExecution}
use Rattle.mw_world.specs.declared.step_labels.StepLabel.TheVariants.{Nothing}
use Rattle.mw_world.specs.Definition.Calls.{Called, breaks, call, call_if, called_at, calling, calls_made, can_be_made, fails_on, faults, goes_well, moved_if, place_for, skips, starts_from}
use Rattle.mw_world.specs.Definition.Extent.{has_slot}
use Rattle.mw_world.specs.Definition.Events.{WorldEvent, Come, Step, File, Hand, Restart}
use Rattle.mw_world.specs.Definition.Requests.{came, gave}
use Rattle.mw_world.specs.Definition.Restarts.{restarted}
use Rattle.mw_world.specs.Definition.State.{State, WorkerState, TenantStart, IsConfig, world_at}
use Rattle.mw_world.specs.Definition.Turns.{Made, moved, next_attempt, turn}
use Rattle.mw_world.specs.Definition.World.{come, hand, handed, may_come, run, step}
use Rattle.mw_law_runs.proofs.Counts.Startable.{may_start}
use Rattle.mw_law_runs.proofs.Knowledge.Updates.Preservation.{upd_else, upd_here}
use Rattle.mw_law_runs.specs.Files.{FilesFit}
use Rattle.mw_law_runs.specs.RunInvariant.{IsSound}
use Rattle.mw_law_runs.proofs.StepEnds.{TurnEnds, turn_ends}
use Rattle.mw_law_runs.proofs.Numbers.{same_or_other}
use Rattle.mw_law_runs.proofs.Obligations.Pins.{none_some, some_same}
use Rattle.mw_law_runs.proofs.RunsAreSound.{events_keep_sound, runs_are_sound}
use Rattle.mw_law_runs.proofs.RequestsInWorlds.{have_their_requests}
use Rattle.mw_law_runs.proofs.GuardedEvents.{guarded, if_slot}
use Rattle.mw_law_store.proofs.CallMarks.{call_ended}
use Rattle.mw_law_store.proofs.Dues.Noted.{call_keeps, meant_goes, told_at}
use Rattle.mw_law_store.proofs.ReachablePoints.{is_reachable}

abbrev pub ArePointsMeant : State → Type 0
ArePointsMeant state = (worker : ℕ) (actor : ActorState) → (state.worker_states worker).actor ≡ Some actor → is_reachable actor.point ≡ true

-- one worker's request goes on, begins or ends, and the others are as they were
one_goes : (old new : State) (worker : ℕ) → ((other : ℕ) → other ≢ worker → (new.worker_states other).actor ≡ (old.worker_states other).actor)
    → ((actor : ActorState) → (new.worker_states worker).actor ≡ Some actor → is_reachable actor.point ≡ true) → ArePointsMeant old → ArePointsMeant new
one_goes old new worker others itself meant other actor sits = by_worker (same_or_other other worker)
  where
    by_worker : (other ≡ worker) ⊎ (other ≢ worker) → is_reachable actor.point ≡ true
    by_worker (inl is) = itself actor (subst (λ (n : ℕ). (new.worker_states n).actor ≡ Some actor) is sits)
    by_worker (inr apart) = meant other actor (sym (others other apart) ∙ sits)

-- a worker's state is set
worker_state_set : (state new : State) (worker : ℕ) (worker_state : WorkerState) → new.worker_states ≡ upd state.worker_states worker worker_state → ((actor : ActorState) → worker_state.actor ≡ Some actor → is_reachable actor.point ≡ true)
    → ArePointsMeant state → ArePointsMeant new
worker_state_set state new worker worker_state is itself meant =
    one_goes state new worker (λ other apart. ap (λ (worker_states : ℕ → WorkerState). (worker_states other).actor) is ∙ ap (λ (s : WorkerState). s.actor) (upd_else state.worker_states worker other worker_state apart))
    (λ actor sits. itself actor (sym (ap (λ (worker_states : ℕ → WorkerState). (worker_states worker).actor) is ∙ ap (λ (s : WorkerState). s.actor) (upd_here state.worker_states worker worker_state)) ∙ sits)) meant

meant_as : (one actor : ActorState) → is_reachable one.point ≡ true → Some one ≡ Some actor → is_reachable actor.point ≡ true
meant_as one actor meant same = subst (λ (found : ActorState). is_reachable found.point ≡ true) (some_same one actor same) meant

first_meant : (worker tenant quota pool : ℕ) (job : Job) → is_reachable (first worker tenant quota pool job).point ≡ true
first_meant worker tenant quota pool (Get address) = refl
first_meant worker tenant quota pool (Cas entries) = refl

module _ (config : Config) (state next : State) (meant : ArePointsMeant state) where
  turns_keep : (worker : ℕ) (found : Option ActorState) → IsSound config state → (state.worker_states worker).actor ≡ found → turn config state worker found ≡ Some next → ArePointsMeant next
  turns_keep worker None sound sits is = absurd (none_some next is)
  turns_keep worker (Some actor) sound sits is =
      let worker_state = have_their_requests config state sound worker actor sits in
      let ended : TurnEnds state next actor.worker actor =
      turn_ends config state actor worker_state.informed next (subst (λ (n : ℕ). turn config state n (Some actor) ≡ Some next) (sym worker_state.same_worker) is) in
      one_goes state next actor.worker ended.stepped.others
      (λ one goes.
      meant_as _ one
      (meant_goes actor (next_attempt actor.point (state.worker_states actor.worker).attempt) actor.point ended.observation (meant worker actor sits) (told_at state.cells actor actor.point ended.observation ended.ends))
      (sym ended.stepped.goes_on ∙ goes)) meant

  -- a call on a file leaves its request at a point that it can reach, however it ends
  moved_meant : (worker : ℕ) (actor : ActorState) (made : Made) (called : Called) (went_well : Bool) → called_at actor.point ≡ Some called → made.observation ≡ Filed went_well → ArePointsMeant (moved state worker actor made)
  moved_meant worker actor made called went_well is told =
      worker_state_set state (moved state worker actor made) worker _ refl
      (λ one goes.
      meant_as _ one
      (subst (λ observation. is_reachable (goes_to actor (next_attempt actor.point (state.worker_states worker).attempt) actor.point observation) ≡ true) (sym told)
      (call_keeps actor (next_attempt actor.point (state.worker_states worker).attempt) actor.point called went_well is).1) goes) meant

  calls_keep : (worker : ℕ) (actor : ActorState) (outcome : Outcome) (found : Option Called) → called_at actor.point ≡ found → call_if config state worker actor found outcome ≡ Some next → ArePointsMeant next
  calls_keep worker actor outcome None called is = absurd (none_some next is)
  calls_keep worker actor outcome (Some one) called is =
      let file = (state.tenant_states actor.tenant).file in
      let places = (state.tenant_states actor.tenant).quota in
      let status = state.cells.statuses one.change.slot in
      let place = place_for one.call file places one.change.slot in
      call_ended ArePointsMeant state worker actor one.change file one.call status place (calls_made one.call status file place) (starts_from one.call status) (fails_on one.call file)
      (can_be_made one.call file places place (own_entries actor)) outcome next
      (record {
        skipped = λ not_so. moved_meant worker actor (skips state actor one.change file) one true called refl;
        faulted = λ so failed. moved_meant worker actor (faults state actor one.change file file Nothing) one false called refl;
        well = λ so fine can. moved_meant worker actor (goes_well state actor one.change file one.call status place) one true called refl;
        broke = λ number so fine can makes. moved_meant worker actor (breaks state actor one.change file one.call place) one false called refl;
      })
      (if_slot (has_slot config one.change.slot) (moved_if state worker actor (calling config state actor one outcome)) next is)

  calls_keep_worker_state : (worker : ℕ) (found : Option ActorState) (outcome : Outcome) → call config state worker found outcome ≡ Some next → ArePointsMeant next
  calls_keep_worker_state worker None outcome is = absurd (none_some next is)
  calls_keep_worker_state worker (Some actor) outcome is = calls_keep worker actor outcome (called_at actor.point) refl is

  comes_keep : (worker tenant : ℕ) (job : Job) → come config state worker tenant job ≡ Some next → ArePointsMeant next
  comes_keep worker tenant job is =
      guarded ArePointsMeant (may_come config state worker tenant job) (came config state worker tenant job) next
      (λ may. worker_state_set state (came config state worker tenant job) worker _ refl
      (λ actor sits. meant_as _ actor (first_meant worker tenant (state.tenant_states tenant).quota config.pool job) sits) meant) is

  given : (worker tenant : ℕ) (reply : Option Reply) → handed state worker tenant reply ≡ Some next → ArePointsMeant next
  given worker tenant None is = absurd (none_some next is)
  given worker tenant (Some reply) is =
      subst ArePointsMeant (some_same (gave state worker tenant) next is) (worker_state_set state (gave state worker tenant) worker _ refl (λ actor sits. absurd (none_some actor sits)) meant)

  hands_keep : (worker : ℕ) (found : Option ActorState) → hand state worker found ≡ Some next → ArePointsMeant next
  hands_keep worker None is = absurd (none_some next is)
  hands_keep worker (Some actor) is = given worker actor.tenant (replied actor) is

pub events_keep_meant : (config : Config) (state next : State) (event : WorldEvent) → IsSound config state → ArePointsMeant state → step config state event ≡ Some next → ArePointsMeant next
events_keep_meant config state next (Come worker tenant job) sound meant is = comes_keep config state next meant worker tenant job is
events_keep_meant config state next (Step worker) sound meant is = turns_keep config state next meant worker (state.worker_states worker).actor sound refl is
events_keep_meant config state next (File worker outcome) sound meant is = calls_keep_worker_state config state next meant worker (state.worker_states worker).actor outcome is
events_keep_meant config state next (Hand worker) sound meant is = hands_keep config state next meant worker (state.worker_states worker).actor is
events_keep_meant config state next (Restart founds) sound meant is =
    guarded ArePointsMeant (may_start config state founds) (restarted config state founds) next
    (λ may worker actor sits. absurd (none_some actor sits)) is

runs_keep_meant : (config : Config) (events : List WorldEvent) (state last : State) → IsConfig config → IsSound config state → FilesFit state → ArePointsMeant state → run config state events ≡ Some last
    → ArePointsMeant last
runs_keep_meant config [] state last made sound fit meant is = subst ArePointsMeant (some_same state last is) meant
runs_keep_meant config (event ∷ events) state last made sound fit meant is = by_step (step config state event) refl is (λ next. runs_keep_meant config events next last made)
  where
    by_step : (found : Option State) → step config state event ≡ found → option_and_then (λ next. run config next events) found ≡ Some last
        → ((next : State) → IsSound config next → FilesFit next → ArePointsMeant next → run config next events ≡ Some last → ArePointsMeant last) → ArePointsMeant last
    by_step None stepped came_to goes_on = absurd (none_some last came_to)
    by_step (Some next) stepped came_to goes_on =
        let both = events_keep_sound config state next event made sound fit stepped in
        goes_on next both.0 both.1 (events_keep_meant config state next event sound meant stepped) came_to

pub runs_are_meant : (config : Config) (openings : ℕ → TenantStart) (events : List WorldEvent) (state : State) → IsExecution config openings events state → ArePointsMeant state
runs_are_meant config openings events state played =
    let start = world_at config openings in
    let sound = runs_are_sound config openings [] start (record { made = played.made; starts = played.starts; runs = refl }) in
    runs_keep_meant config events start state played.made sound.0 sound.1 (λ worker actor sits. absurd (none_some actor sits)) played.runs
