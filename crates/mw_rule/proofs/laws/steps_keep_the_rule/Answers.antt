-- Proves the law `steps_keep_the_rule`.
use Rattle.mw_rule.proofs.StepRule.{first_steps_keep, steps_keep}
use Rattle.mw_rule.proofs.SplitLaws.{looks_keep}
use Rattle.mw_rule.proofs.laws.steps_keep_the_rule.Goals as goal

pub returns-clause-steps : goal.returns-clause-steps
returns-clause-steps g c = λ key. steps_keep (g.B.Begins.config key) (g.B.Begins.begun key)

pub returns-clause-first : goal.returns-clause-first
returns-clause-first g c = λ key. first_steps_keep (g.B.Begins.config key) (g.B.Begins.begun key)

pub returns-clause-looks : goal.returns-clause-looks
returns-clause-looks g c = λ key. looks_keep (g.B.Begins.config key) (g.B.Begins.begun key)
