-- Proves the law `seals_are_held`.
use Rattle.mw_law_store.proofs.DurabilityLaws.{seals_are_held}
use Rattle.mw_law_store.proofs.laws.seals_are_held.Goals as goal

pub returns : goal.returns
returns c = seals_are_held
