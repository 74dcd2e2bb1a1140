-- After every run the world is sound (`IsSound`).
-- Used by: runs_are_sound, events_keep_sound, mw_law_store, mw_rule, mw_law_threads.
use Rattle.std.specs.Prelude.{ℕ, ◌≡◌, true, List, [], ◌∷◌, Option, Some, None}
use Rattle.std.specs.Option.{option_and_then}
use Rattle.std.proofs.Common.{refl, sym, subst}
use Rattle.mw_words.specs.declared.jobs.Job.{Job}
use Rattle.mw_words.specs.declared.replies.Reply.{Reply}
use Rattle.mw_words.specs.Change.{AreWords}
use Rattle.mw_actor.specs.ActorState.{ActorState, own_entries}
use Rattle.mw_actor.specs.Program.{replied}
use Rattle.mw_world.specs.declared.outcomes.Outcome.{Outcome}
use Rattle.mw_world.specs.declared.config.Config.{Config}
use Rattle.mw_world.specs.Definition.Calls.{Called, call, call_if, called_at, calling, calls_made, can_be_made, fails_on, moved_if, place_for, starts_from}
use Rattle.mw_world.specs.Definition.Extent.{has_slot}
use Rattle.mw_world.specs.Definition.Events.{Found, WorldEvent, Come, Step, File, Hand, Restart}
use Rattle.mw_world.specs.Definition.Restarts.{found_of, restart, restarted}
use Rattle.mw_world.specs.Definition.State.{State, IsConfig, IsStart, TenantStart, world_at}
use Rattle.mw_world.specs.Definition.Requests.{came, gave}
use Rattle.mw_world.specs.Definition.Turns.{turn}
use Rattle.mw_world.specs.Definition.World.{come, hand, handed, may_come, run, step}
use Rattle.mw_law_runs.proofs.Counts.Room.{doors-count-the-taken, who-waits-has-room}
use Rattle.mw_law_runs.proofs.Counts.Startable.{may_start, start_tells}
use Rattle.mw_law_runs.proofs.Obligations.RequestObligations.{requests_release_their_words}
use Rattle.mw_law_runs.specs.Files.{AreEntries, FileFits, FilesFit}
use Rattle.mw_law_runs.specs.Laws.{EventsKeepSound, RoomIsLeft, RunsAreSound, SoundWorldsAreRight}
use Rattle.mw_law_runs.specs.RunInvariant.{IsSound}
use Rattle.mw_law_runs.proofs.ArrivalsAndStarts.{comes_keep_sound, hands_keep_sound, starts_are_sound, restarts_keep_sound}
use Rattle.mw_law_runs.proofs.Callers.{of_caller}
use Rattle.mw_law_runs.proofs.StepEnds.{same_file, turn_ends}
use Rattle.mw_law_runs.proofs.Files.{all_found, called_fits, opened_fits, own_fit, words_fit}
use Rattle.mw_law_runs.proofs.FileCalls.{calls_keep_sound}
use Rattle.mw_law_runs.proofs.RequestsInWorlds.{have_their_requests}
use Rattle.mw_law_runs.proofs.GuardedEvents.{guarded, if_slot}
use Rattle.mw_law_runs.proofs.StepsKeepInvariant.{turns_keep_sound}

pub sound_worlds_are_right : SoundWorldsAreRight
sound_worlds_are_right config state sound = record {
  requests = record { worker_states = sound.counts.worker_states; quotas = sound.counts.quotas; calls = λ worker actor called sits at. of_caller config state worker actor called sound sits at; standing = sound.points.standing; permission = sound.points.permission; idle = sound.points.idle };
  claims = sound.memory.claims;
  slots = sound.memory.slots;
  references = sound.memory.references;
  attempts = sound.memory.attempts;
  words = sound.memory.words;
  late = sound.memory.late;
  releasers = requests_release_their_words state sound.releasers;
  counts = sound.counts.counts;
}

-- files that didn't change still fit
same_fit : (state next : State) → FilesFit state → ((tenant : ℕ) → (next.tenant_states tenant).file ≡ (state.tenant_states tenant).file) → FilesFit next
same_fit state next fit same tenant = subst FileFits (sym (same tenant)) (fit tenant)

turned_fit : (config : Config) (state next : State) (worker : ℕ) (found : Option ActorState) → IsSound config state → FilesFit state → (state.worker_states worker).actor ≡ found → turn config state worker found ≡ Some next
    → FilesFit next
turned_fit config state next worker None sound fit sits is = absurd (none is)
  where
    none : None ≡ Some next → ⊥
    none e = cc
turned_fit config state next worker (Some actor) sound fit sits is =
    let worker_state = have_their_requests config state sound worker actor sits in
    same_fit state next fit (turn_ends config state actor worker_state.informed next (subst (λ (n : ℕ). turn config state n (Some actor) ≡ Some next) (sym worker_state.same_worker) is)).files

called_if : (config : Config) (state next : State) (worker : ℕ) (actor : ActorState) (found : Option Called) (outcome : Outcome) → FilesFit state → AreEntries (own_entries actor)
    → call_if config state worker actor found outcome ≡ Some next → FilesFit next
called_if config state next worker actor None outcome fit entries is = absurd (none is)
  where
    none : None ≡ Some next → ⊥
    none e = cc
called_if config state next worker actor (Some called) outcome fit entries is =
    let file = (state.tenant_states actor.tenant).file in
    let places = (state.tenant_states actor.tenant).quota in
    let status = state.cells.statuses called.change.slot in
    let place = place_for called.call file places called.change.slot in
    called_fits state worker actor fit entries (starts_from called.call status) (fails_on called.call file) (can_be_made called.call file places place (own_entries actor))
    called.call called.change status place (calls_made called.call status file place) outcome next
    (if_slot (has_slot config called.change.slot) (moved_if state worker actor (calling config state actor called outcome)) next is)

filed_fit : (config : Config) (state next : State) (worker : ℕ) (found : Option ActorState) (outcome : Outcome) → IsSound config state → FilesFit state → (state.worker_states worker).actor ≡ found
    → call config state worker found outcome ≡ Some next → FilesFit next
filed_fit config state next worker None outcome sound fit sits is = absurd (none is)
  where
    none : None ≡ Some next → ⊥
    none e = cc
filed_fit config state next worker (Some actor) outcome sound fit sits is =
    called_if config state next worker actor (called_at actor.point) outcome fit (own_fit actor.job (sound.requests worker actor sits).in_range.formed) is

handed_fit : (state next : State) (worker tenant : ℕ) (reply : Option Reply) → FilesFit state → handed state worker tenant reply ≡ Some next → FilesFit next
handed_fit state next worker tenant None fit is = absurd (none is)
  where
    none : None ≡ Some next → ⊥
    none e = cc
handed_fit state next worker tenant (Some reply) fit is =
    guarded FilesFit true (gave state worker tenant) next (λ so. same_fit state (gave state worker tenant) fit (λ other. same_file state.tenant_states tenant other _ refl)) is

hand_fit : (state next : State) (worker : ℕ) (found : Option ActorState) → FilesFit state → hand state worker found ≡ Some next → FilesFit next
hand_fit state next worker None fit is = absurd (none is)
  where
    none : None ≡ Some next → ⊥
    none e = cc
hand_fit state next worker (Some actor) fit is = handed_fit state next worker actor.tenant (replied actor) fit is

came_fit : (config : Config) (state next : State) (worker tenant : ℕ) (job : Job) → FilesFit state → come config state worker tenant job ≡ Some next → FilesFit next
came_fit config state next worker tenant job fit is =
    guarded FilesFit (may_come config state worker tenant job) (came config state worker tenant job) next
    (λ so. same_fit state (came config state worker tenant job) fit (λ other. same_file state.tenant_states tenant other _ refl)) is

-- what a start finds
module _ (config : Config) (state next : State) (founds : List Found) (fit : FilesFit state) where
  founds_fit : may_start config state founds ≡ true → (tenant : ℕ) → AreWords (found_of founds tenant).words
  founds_fit may =
      let told = start_tells config state founds may in
      all_found config state founds fit told.each told.found

  started_fit : restart config state founds ≡ Some next → ((tenant : ℕ) → AreWords (found_of founds tenant).words) × FilesFit next
  started_fit is =
      let test = may_start config state founds in (
        guarded (λ (one : State). (tenant : ℕ) → AreWords (found_of founds tenant).words) test (restarted config state founds) next founds_fit is,
        guarded FilesFit test (restarted config state founds) next (λ may tenant. opened_fits (found_of founds tenant).words (found_of founds tenant).fails_at (founds_fit may tenant)) is,
      )

pub events_keep_sound : EventsKeepSound
events_keep_sound config state next (Come worker tenant job) is_config sound fit is =
    (comes_keep_sound config state next worker tenant job is_config sound is, came_fit config state next worker tenant job fit is)
events_keep_sound config state next (Step worker) is_config sound fit is =
    (turns_keep_sound config state next worker sound is, turned_fit config state next worker (state.worker_states worker).actor sound fit refl is)
events_keep_sound config state next (File worker outcome) is_config sound fit is =
    (calls_keep_sound config state next worker outcome sound is, filed_fit config state next worker (state.worker_states worker).actor outcome sound fit refl is)
events_keep_sound config state next (Hand worker) is_config sound fit is =
    (hands_keep_sound config state next worker sound is, hand_fit state next worker (state.worker_states worker).actor fit is)
events_keep_sound config state next (Restart founds) is_config sound fit is =
    let found = started_fit config state next founds fit is in
    (restarts_keep_sound config state next founds is_config (λ tenant address. words_fit (found_of founds tenant).words address (found.0 tenant)) sound is, found.1)

-- from any sound world on
runs_on : (config : Config) (events : List WorldEvent) (state last : State) → IsConfig config → IsSound config state → FilesFit state → run config state events ≡ Some last
    → IsSound config last × FilesFit last
runs_on config [] state last is_config sound fit is = subst (λ (one : State). IsSound config one × FilesFit one) (some_same is) (sound, fit)
  where
    some_same : Some state ≡ Some last → state ≡ last
    some_same e = cc
runs_on config (event ∷ events) state last is_config sound fit is = by_step (step config state event) refl is (λ next. runs_on config events next last is_config)
  where
    by_step : (found : Option State) → step config state event ≡ found → option_and_then (λ next. run config next events) found ≡ Some last
        → ((next : State) → IsSound config next → FilesFit next → run config next events ≡ Some last → IsSound config last × FilesFit last) → IsSound config last × FilesFit last
    by_step None stepped came goes_on = absurd (none came)
      where
        none : None ≡ Some last → ⊥
        none e = cc
    by_step (Some next) stepped came goes_on =
        let both = events_keep_sound config state next event is_config sound fit stepped in
        goes_on next both.0 both.1 came

-- The tenants' files fit at a start.
pub starts_fit : (config : Config) (openings : ℕ → TenantStart) → IsStart config openings → FilesFit (world_at config openings)
starts_fit config openings starts tenant = record { contents = starts.words tenant; places = λ place. refl; doubt = refl }

pub runs_are_sound : RunsAreSound
runs_are_sound config openings events state played =
    runs_on config events (world_at config openings) state played.made (starts_are_sound config openings played.made played.starts) (starts_fit config openings played.starts) played.runs

pub room_is_left : RoomIsLeft
room_is_left config openings events state played =
    let sound = (runs_are_sound config openings events state played).0 in
    record {
      room = doors-count-the-taken config state sound.counts;
      free = λ worker actor sits waits. who-waits-has-room config state worker actor sound.counts sits waits;
    }
