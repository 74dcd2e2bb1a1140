-- Proves the law `the_run_goes_on`.
use Rattle.mw_rule.proofs.StepRule.{first_steps_on, steps_on}
use Rattle.mw_rule.proofs.SplitLaws.{taking_files_on, deals_on, giving_files_on, merging_on, learning_on, looks_on, meeting_on, notes_on}
use Rattle.mw_rule.proofs.laws.the_run_goes_on.Goals as goal

pub returns-clause-steps : goal.returns-clause-steps
returns-clause-steps g c = λ key. steps_on (g.B.Begins.config key) (g.B.Begins.begun key)

pub returns-clause-first : goal.returns-clause-first
returns-clause-first g c = λ key. first_steps_on (g.B.Begins.config key) (g.B.Begins.begun key)

pub returns-clause-looks : goal.returns-clause-looks
returns-clause-looks g c = λ key. looks_on (g.B.Begins.config key) (g.B.Begins.begun key)

pub returns-clause-parts : goal.returns-clause-parts
returns-clause-parts g c = λ key. (deals_on (g.B.Begins.config key) (g.B.Begins.begun key), notes_on (g.B.Begins.config key) (g.B.Begins.begun key), giving_files_on (g.B.Begins.config key) (g.B.Begins.begun key))

pub returns-clause-joins : goal.returns-clause-joins
returns-clause-joins g c = λ key.
    let config = g.B.Begins.config key in let begun = g.B.Begins.begun key in (learning_on config begun, meeting_on config begun, merging_on config begun, taking_files_on config begun)
