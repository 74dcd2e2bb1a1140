-- Proves the law `file_calls_are_events`.
use Rattle.mw_rule.proofs.FileCalls.{calls_end_on, calls_find_faults_on, calls_load_on, calls_meet_faults_on}
use Rattle.mw_rule.proofs.laws.file_calls_are_events.Goals as goal

pub returns-clause-load : goal.returns-clause-load
returns-clause-load g c = λ key. calls_load_on (g.B.Begins.config key) (g.B.Begins.begun key)

pub returns-clause-end : goal.returns-clause-end
returns-clause-end g c = λ key. calls_end_on (g.B.Begins.config key) (g.B.Begins.begun key)

pub returns-clause-faults : goal.returns-clause-faults
returns-clause-faults g c = λ key. calls_meet_faults_on (g.B.Begins.config key) (g.B.Begins.begun key)

pub returns-clause-failed : goal.returns-clause-failed
returns-clause-failed g c = λ key. calls_find_faults_on (g.B.Begins.config key) (g.B.Begins.begun key)
