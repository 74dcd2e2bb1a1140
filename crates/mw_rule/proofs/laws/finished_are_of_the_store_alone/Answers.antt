-- Proves the law `finished_are_of_the_store_alone`.
use Rattle.mw_rule.proofs.StoreAloneLaws.{finished_are_of_store_alone}
use Rattle.mw_rule.proofs.laws.finished_are_of_the_store_alone.Goals as goal

pub returns : goal.returns
returns c = finished_are_of_store_alone
