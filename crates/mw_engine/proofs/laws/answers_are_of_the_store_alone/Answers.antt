-- Proves the law `answers_are_of_the_store_alone`.
use Rattle.std.specs.Prelude.{◌++◌}
use Rattle.std.proofs.Common.{subst}
use Rattle.mw_core.specs.FromTable.{Each, IsOfStoreAlone, finished_as}
use Rattle.mw_core.proofs.FromTable.{each_last, finished_are_of_store_alone}
use Rattle.mw_engine.proofs.laws.answers_are_of_the_store_alone.Goals as goal

pub returns : goal.returns
returns c first now tenant job reply answered numbers =
    let behind = answered.run.behind in
    each_last (IsOfStoreAlone now.config behind.openings (behind.before ++ behind.events) behind.state) first.mine (finished_as answered.token tenant job reply answered.answered.place)
    (subst (Each (IsOfStoreAlone now.config behind.openings (behind.before ++ behind.events) behind.state)) answered.answered.noted (finished_are_of_store_alone now behind answered.right numbers))
