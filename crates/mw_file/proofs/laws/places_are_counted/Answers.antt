-- Proves the law `places_are_counted`.
use Rattle.std.proofs.Common.{ap, ◌∙◌, ◌+◌}
use Rattle.mw_file.specs.Taken.{taken, if_taken}
use Rattle.mw_file.proofs.TakenCounts.{has_free, taken_staged}
use Rattle.mw_file.proofs.laws.places_are_counted.Goals as goal

pub returns-clause-free : goal.returns-clause-free
returns-clause-free c states = has_free states

pub returns-clause-staged : goal.returns-clause-staged
returns-clause-staged c old new place stage writes lt is =
    taken_staged old new place lt is.count is.stage_there ∙ ap (λ s. taken old + if_taken s) is.stage_here
