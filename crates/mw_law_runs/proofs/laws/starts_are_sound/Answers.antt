-- Proves the law `starts_are_sound`.
use Rattle.mw_law_runs.proofs.ArrivalsAndStarts.{restarts_keep_sound, starts_are_sound}
use Rattle.mw_law_runs.proofs.laws.starts_are_sound.Goals as goal

pub returns-clause-first : goal.returns-clause-first
returns-clause-first c = starts_are_sound

pub returns-clause-again : goal.returns-clause-again
returns-clause-again c = restarts_keep_sound
