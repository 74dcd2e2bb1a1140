-- Proves the law `file_calls_keep_the_rule`.
use Rattle.mw_rule.proofs.FileCalls.{calls_break, calls_end, calls_fail, calls_load}
use Rattle.mw_rule.proofs.laws.file_calls_keep_the_rule.Goals as goal

pub returns-clause-load : goal.returns-clause-load
returns-clause-load g c = λ key. calls_load (g.B.Begins.config key) (g.B.Begins.begun key)

pub returns-clause-end : goal.returns-clause-end
returns-clause-end g c = λ key. calls_end (g.B.Begins.config key) (g.B.Begins.begun key)

pub returns-clause-faults : goal.returns-clause-faults
returns-clause-faults g c = λ key. calls_break (g.B.Begins.config key) (g.B.Begins.begun key)

pub returns-clause-failed : goal.returns-clause-failed
returns-clause-failed g c = λ key. calls_fail (g.B.Begins.config key) (g.B.Begins.begun key)
