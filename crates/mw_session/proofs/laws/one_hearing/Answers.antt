-- Proves the law `one_hearing`.
use Rattle.mw_session.proofs.LinesHeard.{one_hearing}
use Rattle.mw_session.proofs.laws.one_hearing.Goals as goal

pub returns : goal.returns
returns c = one_hearing
