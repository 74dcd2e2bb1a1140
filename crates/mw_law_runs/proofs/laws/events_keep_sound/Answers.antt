-- Proves the law `events_keep_sound`.
use Rattle.mw_law_runs.proofs.RunsAreSound.{events_keep_sound}
use Rattle.mw_law_runs.proofs.laws.events_keep_sound.Goals as goal

pub returns : goal.returns
returns c = events_keep_sound
