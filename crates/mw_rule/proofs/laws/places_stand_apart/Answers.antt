-- Proves the law `places_stand_apart`.
use Rattle.mw_rule.proofs.Layouts.{index_injective, places_in_table, places_within}
use Rattle.mw_rule.proofs.laws.places_stand_apart.Goals as goal

pub returns-clause-within : goal.returns-clause-within
returns-clause-within c = places_within

pub returns-clause-there : goal.returns-clause-there
returns-clause-there c = places_in_table

pub returns-clause-apart : goal.returns-clause-apart
returns-clause-apart c = index_injective
