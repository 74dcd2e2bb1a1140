-- Proves the law `calls_keep_sound`.
use Rattle.mw_law_runs.proofs.FileCalls.{calls_keep_sound}
use Rattle.mw_law_runs.proofs.laws.calls_keep_sound.Goals as goal

pub returns : goal.returns
returns c = calls_keep_sound
