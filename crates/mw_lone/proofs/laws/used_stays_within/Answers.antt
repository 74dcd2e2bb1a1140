-- Proves the law `used_stays_within`.
use Rattle.mw_lone.proofs.KeptRuns.{used-stays-within}
use Rattle.mw_lone.proofs.laws.used_stays_within.Goals as goal

pub returns : goal.returns
returns c = used-stays-within
