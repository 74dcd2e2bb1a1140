-- After every run, the tests in the definition of a world refuse nothing that a request asks for. So all of `HoldsOfRun`
-- holds.
-- Used by: every_run_holds, runs_are_enabled, mw_simulator.
use Rattle.mw_world.specs.Claim.Headline.{EveryRunHolds}
use Rattle.mw_law_runs.proofs.RunsAreSound.{room_is_left, runs_are_sound}
use Rattle.mw_law_runs.proofs.Places.PlaceInvariant.{places_are_there}
use Rattle.mw_law_store.specs.Files.Enabled.{RunsAreEnabled}
use Rattle.mw_law_store.proofs.Files.CallsCanBeMade.{calls_can_be_made, starts_find_words}
use Rattle.mw_law_store.proofs.Files.RunsKeepFiles.{runs_have_files, worlds_are_right}

pub runs_are_enabled : RunsAreEnabled
runs_are_enabled config openings events state played =
    let sound = (runs_are_sound config openings events state played).0 in
    let has = runs_have_files config openings events state played in
    record {
      steps = λ worker actor sits unreplied calm. places_are_there config openings events state worker actor played sits unreplied calm;
      calls = λ worker actor called sits at. calls_can_be_made config state worker actor called sound has sits at;
      starts = λ tenant interrupted low may. starts_find_words config state tenant interrupted;
    }

pub every_run_holds : EveryRunHolds
every_run_holds config openings events state played =
    let room = room_is_left config openings events state played in
    record {
      invariant = worlds_are_right config state (runs_are_sound config openings events state played).0 (runs_have_files config openings events state played);
      room = room.room;
      free = room.free;
      enabled = runs_are_enabled config openings events state played;
    }
