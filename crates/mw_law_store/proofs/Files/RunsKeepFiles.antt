-- Every event keeps `HasFiles` (the shared words agree with the tenants' files), so the world's whole invariant holds after
-- every run.
-- Used by: events_keep_files, runs_have_files, mw_rule, mw_law_threads.
use Rattle.std.specs.Prelude.{◌≡◌, [], ◌∷◌, Option, Some, None}
use Rattle.std.specs.Option.{option_and_then}
use Rattle.std.proofs.Common.{refl, subst}
use Rattle.mw_world.specs.Definition.Events.{Come, Step, File, Hand, Restart}
use Rattle.mw_world.specs.Definition.State.{State, world_at}
use Rattle.mw_world.specs.Definition.World.{run, step}
use Rattle.mw_law_runs.specs.Files.{FilesFit}
use Rattle.mw_law_runs.specs.RunInvariant.{IsSound}
use Rattle.mw_law_runs.proofs.Obligations.Pins.{some_same, none_some}
use Rattle.mw_law_runs.proofs.RunsAreSound.{events_keep_sound, runs_are_sound, sound_worlds_are_right}
use Rattle.mw_law_store.specs.Files.Files.{HasFiles}
use Rattle.mw_law_store.specs.Files.Laws.{EventsKeepFiles, RunsHaveFiles, RunsGoOn, SoundWorldsWithFilesAreRight}
use Rattle.mw_law_store.proofs.Files.ArrivalsAndStarts.{comes_keep_files, hands_keep_files, first_starts_have_files, restarts_keep_files}
use Rattle.mw_law_store.proofs.Files.CallFiles.{calls_keep_files}
use Rattle.mw_law_store.proofs.Files.TurnFiles.{turns_keep_files}

pub events_keep_files : EventsKeepFiles
events_keep_files config state next (Come worker tenant job) sound has is = comes_keep_files config state next worker tenant job sound has is
events_keep_files config state next (Step worker) sound has is = turns_keep_files config state next worker sound has is
events_keep_files config state next (File worker outcome) sound has is = calls_keep_files config state next worker outcome sound has is
events_keep_files config state next (Hand worker) sound has is = hands_keep_files config state next worker sound has is
events_keep_files config state next (Restart founds) sound has is = restarts_keep_files config state next founds has is

pub runs_go_on : RunsGoOn
runs_go_on config [] state last is_config sound fit has is = subst (HasFiles config) (some_same state last is) has
runs_go_on config (event ∷ events) state last is_config sound fit has is = by_step (step config state event) refl is (λ next. runs_go_on config events next last is_config)
  where
    by_step : (found : Option State) → step config state event ≡ found → option_and_then (λ next. run config next events) found ≡ Some last
        → ((next : State) → IsSound config next → FilesFit next → HasFiles config next → run config next events ≡ Some last → HasFiles config last) → HasFiles config last
    by_step None stepped came goes_on = absurd (none_some last came)
    by_step (Some next) stepped came goes_on =
        let both = events_keep_sound config state next event is_config sound fit stepped in
        goes_on next both.0 both.1 (events_keep_files config state next event sound has stepped) came

pub runs_have_files : RunsHaveFiles
runs_have_files config openings events state played =
    let start = world_at config openings in
    let first = runs_are_sound config openings [] start (record { made = played.made; starts = played.starts; runs = refl }) in
    runs_go_on config events start state played.made first.0 first.1 (first_starts_have_files config openings played.starts) played.runs

pub worlds_are_right : SoundWorldsWithFilesAreRight
worlds_are_right config state sound has =
    let right = sound_worlds_are_right config state sound in
    record {
      requests = right.requests;
      claims = right.claims;
      slots = right.slots;
      references = right.references;
      attempts = right.attempts;
      words = right.words;
      late = right.late;
      releasers = right.releasers;
      files = has.told;
      places = has.places;
      counts = right.counts;
    }
