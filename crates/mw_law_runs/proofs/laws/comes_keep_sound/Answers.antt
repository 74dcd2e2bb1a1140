-- Proves the law `comes_keep_sound`.
use Rattle.mw_law_runs.proofs.ArrivalsAndStarts.{comes_keep_sound}
use Rattle.mw_law_runs.proofs.laws.comes_keep_sound.Goals as goal

pub returns : goal.returns
returns c = comes_keep_sound
