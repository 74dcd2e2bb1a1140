-- Proves the law `moves_are_of_the_run`.
use Rattle.mw_rule.proofs.AnyNumber.{any_number}
use Rattle.mw_rule.proofs.Events.{first_steps_are_events, looks_are_no_events, steps_are_events}
use Rattle.mw_rule.proofs.WordActionLaws.{moves_are_allowed, moves_change_words, moves_go_on}
use Rattle.mw_rule.proofs.laws.moves_are_of_the_run.Goals as goal

pub returns-clause-go_on : goal.returns-clause-go_on
returns-clause-go_on g c = λ key. moves_go_on (g.B.Begins.config key) (g.B.Begins.begun key)

pub returns-clause-allowed : goal.returns-clause-allowed
returns-clause-allowed g c = λ key. moves_are_allowed (g.B.Begins.config key) (g.B.Begins.begun key)

pub returns-clause-words : goal.returns-clause-words
returns-clause-words g c = λ key. moves_change_words (g.B.Begins.config key) (g.B.Begins.begun key)

pub returns-clause-steps : goal.returns-clause-steps
returns-clause-steps g c = λ key. steps_are_events (g.B.Begins.config key) (g.B.Begins.begun key)

pub returns-clause-first : goal.returns-clause-first
returns-clause-first g c = λ key. first_steps_are_events (g.B.Begins.config key) (g.B.Begins.begun key)

pub returns-clause-looks : goal.returns-clause-looks
returns-clause-looks g c = λ key. looks_are_no_events (g.B.Begins.config key) (g.B.Begins.begun key)

pub returns-clause-numbers : goal.returns-clause-numbers
returns-clause-numbers g c = λ old new worker actor called held status one other by found sound is_one is_other went.
    any_number old new worker actor called held by status found sound one went other is_one is_other
