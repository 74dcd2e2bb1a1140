-- Proves the law `sealed_come_in_order`.
use Rattle.mw_law_store.proofs.Sealed.{words_are_of_sealed, sealed_come_in_order}
use Rattle.mw_law_store.proofs.laws.sealed_come_in_order.Goals as goal

pub returns : goal.returns
returns c = record { words = words_are_of_sealed; order = sealed_come_in_order }
