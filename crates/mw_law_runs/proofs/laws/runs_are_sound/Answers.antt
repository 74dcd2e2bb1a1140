-- Proves the law `runs_are_sound`.
use Rattle.mw_law_runs.proofs.RunsAreSound.{room_is_left, runs_are_sound, sound_worlds_are_right}
use Rattle.mw_law_runs.proofs.laws.runs_are_sound.Goals as goal

pub returns-clause-runs : goal.returns-clause-runs
returns-clause-runs c = runs_are_sound

pub returns-clause-right : goal.returns-clause-right
returns-clause-right c = sound_worlds_are_right

pub returns-clause-room : goal.returns-clause-room
returns-clause-room c = room_is_left
