-- Proves the law `words_are_of_marks`.
use Rattle.mw_law_store.proofs.AbstractStateLaws.{lines_are_abstract_states}
use Rattle.mw_law_store.proofs.StoresOfStates.{words_are_of_marks}
use Rattle.mw_law_store.proofs.laws.words_are_of_marks.Goals as goal

pub returns : goal.returns
returns c = record { words = words_are_of_marks; lines = lines_are_abstract_states }
