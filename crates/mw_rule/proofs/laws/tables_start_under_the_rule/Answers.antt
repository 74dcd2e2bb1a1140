-- Proves the law `tables_start_under_the_rule`.
use Rattle.mw_rule.proofs.SplitLaws.{starts}
use Rattle.mw_rule.proofs.laws.tables_start_under_the_rule.Goals as goal

pub returns : goal.returns
returns g c = λ key. starts (g.B.Begins.config key) (g.B.Begins.begun key)
