-- Proves the law `turns_keep_sound`.
use Rattle.mw_law_runs.proofs.StepsKeepInvariant.{turns_keep_sound}
use Rattle.mw_law_runs.proofs.laws.turns_keep_sound.Goals as goal

pub returns : goal.returns
returns c = turns_keep_sound
