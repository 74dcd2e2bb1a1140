-- Proves the law `hands_keep_sound`.
use Rattle.mw_law_runs.proofs.ArrivalsAndStarts.{hands_keep_sound}
use Rattle.mw_law_runs.proofs.laws.hands_keep_sound.Goals as goal

pub returns : goal.returns
returns c = hands_keep_sound
